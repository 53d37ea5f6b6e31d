use Rattle.std.proofs.Common.{◌≡◌, ◌∷◌, ◌++◌, [], sym, subst, true}
use Rattle.std.specs.List.{list_any}
use Rattle.std.proofs.lemmas.List.{append-nil}
use Rattle.java_members.specs.Answers.{is_constructor}
use Rattle.java_members.specs.Bodies.{made_maker}
use Rattle.java_members.proofs.FileLemmas.{none_with}
use Rattle.java_members.proofs.members.add_made_maker.Goals as goal

pub returns-else-not-has_maker-clause-makers : goal.returns-else-not-has_maker-clause-makers
returns-else-not-has_maker-clause-makers c =
    let some : list_any is_constructor c.args.tree.now.members ≡ true = search c in
    subst (λ ks. c.args.makers.now ≡ c.args.makers.now ++ ks) (sym (none_with c.args.tree.now.members (made_maker c.args.env.now c.args.class ∷ []) some)) (sym (append-nil c.args.makers.now))
