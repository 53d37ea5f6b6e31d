-- Worked rows of the command and of the status, computed.
use Rattle.std.proofs.Common.{◌≡◌, ℕ, List, [], ◌∷◌, Option, Some, None, refl}
use Rattle.std.specs.Prelude.{codes}
use Rattle.core_tree.specs.declared.what.What.TheVariants as what
use Rattle.planb_run.specs.declared.ending.Stop.TheVariants as stop
use Rattle.planb_run.specs.declared.ending.Reported.TheVariants as reported
use Rattle.planb_run.specs.Command.{Command, command, default_steps}
use Rattle.planb_run.specs.Report.{status}

-- FILE with these arguments and this budget
abbrev runs : List (List ℕ) → ℕ → Option Command
runs arguments steps = Some (record { file = codes "F"; arguments = arguments; steps = steps })

no_words : command [] ≡ None
no_words = refl

the_name_alone : command (codes "planb" ∷ []) ≡ None
the_name_alone = refl

a_file : command (codes "planb" ∷ codes "F" ∷ []) ≡ runs [] 1000000000000
a_file = refl

an_argument : command (codes "planb" ∷ codes "F" ∷ codes "ab" ∷ []) ≡ runs (codes "ab" ∷ []) default_steps
an_argument = refl

two_arguments : command (codes "planb" ∷ codes "F" ∷ codes "ab" ∷ codes "c" ∷ []) ≡ runs (codes "ab" ∷ codes "c" ∷ []) default_steps
two_arguments = refl

an_empty_argument : command (codes "planb" ∷ codes "F" ∷ [] ∷ []) ≡ runs ([] ∷ []) default_steps
an_empty_argument = refl

a_budget : command (codes "planb" ∷ codes "--steps" ∷ codes "3" ∷ codes "F" ∷ []) ≡ runs [] 3
a_budget = refl

a_budget_and_an_argument : command (codes "planb" ∷ codes "--steps" ∷ codes "3" ∷ codes "F" ∷ codes "a" ∷ []) ≡ runs
    (codes "a" ∷ []) 3
a_budget_and_an_argument = refl

the_largest_budget : command (codes "planb" ∷ codes "--steps" ∷ codes "999999999999999999" ∷ codes "F" ∷ []) ≡ runs [] 999999999999999999
the_largest_budget = refl

nineteen_digits : command (codes "planb" ∷ codes "--steps" ∷ codes "1000000000000000000" ∷ codes "F" ∷ []) ≡ None
nineteen_digits = refl

a_negative_budget : command (codes "planb" ∷ codes "--steps" ∷ codes "-1" ∷ codes "F" ∷ []) ≡ None
a_negative_budget = refl

a_budget_twice : command (codes "planb" ∷ codes "--steps" ∷ codes "5" ∷ codes "--steps" ∷ codes "5" ∷ codes "F" ∷ []) ≡ None
a_budget_twice = refl

a_budget_after_the_file : command (codes "planb" ∷ codes "F" ∷ codes "--steps" ∷ codes "5" ∷ []) ≡ None
a_budget_after_the_file = refl

an_argument_with_a_dash : command (codes "planb" ∷ codes "F" ∷ codes "a" ∷ codes "-1" ∷ []) ≡ None
an_argument_with_a_dash = refl

an_option_alone : command (codes "planb" ∷ codes "--proof" ∷ []) ≡ None
an_option_alone = refl

a_budget_alone : command (codes "planb" ∷ codes "--steps" ∷ []) ≡ None
a_budget_alone = refl

a_budget_without_file : command (codes "planb" ∷ codes "--steps" ∷ codes "5" ∷ []) ≡ None
a_budget_without_file = refl

a_report_that_failed : status stop.Done reported.WriteFault ≡ 7
a_report_that_failed = refl

no_room : status (stop.Full what.Cells) reported.Whole ≡ 8
no_room = refl
