use Rattle.std.proofs.Common.{subst, refl, arith}
use Rattle.clause_form.specs.Clauses.{NamesWithin}
use Rattle.clause_form.proofs.Members.{names-from}
use Rattle.clause_form.proofs.clauses.Clauses.names.Goals as goal

pub returns : goal.returns
returns c =
    let literals = c.literals-literal-items.result.now in
    let n = c.args.self.now.variables in (
      λ _. subst (λ xs. NamesWithin n xs) c.literals-literal-items.ensures.value (names-from n literals (λ j lt. c.loop-literal.invariant j (omega (arith, c.loop-literal-test.false)))),
      λ _. refl,
    )
