use Rattle.std.proofs.Common.{◌∙◌, ◌<◌, length, sym, ap, subst, set, arith, w32, Vec, ◌++◌, ◌∷◌, [], ℕ}
use Rattle.std.specs.declared.alloc.Global.{Global}
use Rattle.std.proofs.lemmas.Int.{to_z-of_z}
use Rattle.clause_solver.specs.Occurrences.{Pushed}
use Rattle.clause_solver.proofs.OccurrenceLists.{numbers_in-read, pushed-set}
use Rattle.clause_solver.proofs.occurrences.Occurrences.push.Goals as goal

pub returns : goal.returns
returns c =
    let lists = c.args.self.now.lists.items in
    let z = to_z-of_z w32 c.args.literal c.ranges.literal in
    let q = c.literal_index.result in
    let value = simp z at c.literal_index.ensures.value in
    let within = simp z at c.literal_index.ensures.within in
    let lt : q < length lists = omega (arith, within, c.requires.within) in
    let list = c.index_mut.result.now in
    let here = ap (λ (l : Vec ℕ Global). l.items) c.index_mut.ensures.value ∙ sym (numbers_in-read lists q list lt) in
    subst (λ s. Pushed lists (set lists q c.push.new.self) s c.args.number) value
    (pushed-set lists q c.args.number c.push.new.self lt (c.in_ok-push.ensures.items ∙ ap (λ xs. xs ++ c.args.number ∷ []) here))
