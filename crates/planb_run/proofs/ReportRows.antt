-- Worked rows of the report, computed.
use Rattle.std.proofs.Common.{◌≡◌, [], ◌∷◌, ◌++◌, Some, None, refl}
use Rattle.std.specs.Prelude.{codes}
use Rattle.core_tree.specs.declared.what.What.TheVariants as what
use Rattle.core_tree.specs.declared.program.Program.{Program}
use Rattle.java_source.specs.declared.refusal.SourceRefusal.TheVariants as refusal
use Rattle.planb_run.specs.declared.ending.Stop.TheVariants as stop
use Rattle.planb_run.specs.Report.{report}

-- a program with one class
abbrev small : Program
small = record {
  classes = record { name = codes "Main"; parent = None; fields = []; chosen = [] } ∷ [];
  methods = [];
  makers = [];
  main = 0;
}

ended : report (Some small) stop.Done ≡ []
ended = refl

no_message : report (Some small) (stop.Uncaught 0 None) ≡ codes "uncaught Main\n"
unfolding lib.Utf8.encode
no_message = refl

a_message : report (Some small) (stop.Uncaught 0 (Some (codes "a b"))) ≡ codes "uncaught Main: a b\n"
unfolding lib.Utf8.encode
a_message = refl

an_empty_message : report (Some small) (stop.Uncaught 0 (Some [])) ≡ codes "uncaught Main: \n"
unfolding lib.Utf8.encode
an_empty_message = refl

-- a backslash, a line feed and a carriage return
a_message_on_one_line : report (Some small) (stop.Uncaught 0 (Some (92 ∷ 10 ∷ 13 ∷ []))) ≡ codes "uncaught Main: \\\\\\n\\r\n"
unfolding lib.Utf8.encode
a_message_on_one_line = refl

-- a letter that has two bytes
a_further_letter : report (Some small) (stop.Uncaught 0 (Some (233 ∷ []))) ≡ codes "uncaught Main: " ++ 195 ∷ 169 ∷ 10 ∷ []
unfolding lib.Utf8.encode
a_further_letter = refl

too_deep : report None (stop.Refused refusal.TooDeep) ≡ codes "refused depth\n"
too_deep = refl

no_cells : report (Some small) (stop.Full what.Cells) ≡ codes "full cells\n"
no_cells = refl

no_text : report (Some small) (stop.Full what.Text) ≡ codes "full text\n"
no_text = refl
