use Rattle.std.proofs.Common.{◌≡◌, ◌++◌, ◌∷◌, [], ◌∙◌, sym, ap, subst, true, false, w32}
use Rattle.std.proofs.lemmas.Int.{to_z-of_z}
use Rattle.clause_form.specs.Clauses.{is_clause, has}
use Rattle.clause_form.proofs.Members.{is_clause-push}
use Rattle.clause_form.proofs.clause.Clause.insert.Goals as goal

pub invariant_of-self : goal.invariant_of-self
invariant_of-self c =
    let l = c.args.literal in
    let z = to_z-of_z w32 l c.ranges.literal in
    let own : is_clause c.args.self.now ≡ true = rw (← c.self.view_is) c.self.invariant in
    let out : has l c.args.self.now ≡ false = sym (simp z at c.has.ensures.value) ∙ c.if-not-has.true in
    let pushed : c.push.new.self.items ≡ c.args.self.now ++ l ∷ [] = simp z at c.in_ok-push.ensures.items ∙ ap (λ xs. xs ++ l ∷ []) c.self.view_is in
    subst (λ xs. is_clause xs ≡ true) (sym pushed) (is_clause-push c.args.self.now l own c.requires out)
