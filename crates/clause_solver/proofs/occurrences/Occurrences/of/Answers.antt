use Rattle.std.proofs.Common.{◌∙◌, ◌<◌, length, sym, ap, arith, w32, Vec, ℕ}
use Rattle.std.specs.declared.alloc.Global.{Global}
use Rattle.std.proofs.lemmas.Int.{to_z-of_z}
use Rattle.clause_solver.specs.Occurrences.{numbers_in}
use Rattle.clause_solver.proofs.OccurrenceLists.{numbers_in-read}
use Rattle.clause_solver.proofs.occurrences.Occurrences.of.Goals as goal

pub returns : goal.returns
returns c =
    let lists = c.args.self.now.lists.items in
    let z = to_z-of_z w32 c.args.literal c.ranges.literal in
    let q = c.literal_index.result in
    let value = simp z at c.literal_index.ensures.value in
    let within = simp z at c.literal_index.ensures.within in
    let lt : q < length lists = omega (arith, within, c.requires.within) in
    c.as_slice.ensures.value ∙ ap (λ (l : Vec ℕ Global). l.items) c.index.ensures ∙ sym (numbers_in-read lists q c.index.result.now lt) ∙ ap (numbers_in lists) value
