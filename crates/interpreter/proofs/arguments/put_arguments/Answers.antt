use Rattle.std.proofs.Common.{◌≡◌, ◌+◌, suc, true, [], length, map, option_map, refl, sym, ap, ◌∙◌, arith, rules}
use Rattle.std.proofs.lemmas.Option.{slice_get-map, slice_get_read}
use Rattle.std.proofs.lemmas.List.{length-map}
use Rattle.core_tree.specs.declared.ty.Ty.TheVariants as ty
use Rattle.heap_arena.specs.declared.cell.Cell.TheVariants as value
use Rattle.heap_arena.specs.declared.kind.Kind.TheVariants as kind
use Rattle.heap_arena.specs.Heap.{made, written}
use Rattle.heap_arena.specs.State.{StoreState, after_write}
use Rattle.interpreter.specs.Machine.{text_of}
use Rattle.interpreter.proofs.Filling.{begins, ends, filled, further, has_next, short_at}
use Rattle.interpreter.proofs.arguments.put_arguments.Goals as goal

pub loop-arg-init : goal.loop-arg-init
loop-arg-init g c =
    let texts = map text_of c.args.args.now in
    let s : StoreState = g.S.Store.state c.args.store.now in
    let count : c.in-Ok.count ≡ length c.args.args.now = search rules in (
      refl,
      count,
      c.in_ok-make.ensures.made ∙ ap (λ h. record s { now = h })
          (ap (λ h. made s.field_types h (kind.Array ty.Text) c.in-Ok.count) c.requires.empty
          ∙ ap (made s.field_types [] (kind.Array ty.Text)) (count ∙ sym (length-map c.args.args.now text_of))
          ∙ begins s.field_types texts),
    )

pub text-requires : goal.text-requires
text-requires g c =
    let item = slice_get_read c.args.args.now (length c.args.args.now) c.loop-arg.arg-index c.arg-item.result refl c.loop-arg-test.true c.arg-item.is in
    let is = slice_get-map text_of c.args.args.now c.loop-arg.arg-index ∙ ap (option_map text_of) item in
    rw c.as_str.ensures.value (short_at (map text_of c.args.args.now) c.loop-arg.arg-index (text_of c.arg-item.result) c.requires.short is)

pub loop-arg-preserved : goal.loop-arg-preserved
loop-arg-preserved g c =
    let texts = map text_of c.args.args.now in
    let k = c.loop-arg.arg-index in
    let inv = c.loop-arg.invariant in
    let item = slice_get_read c.args.args.now (length c.args.args.now) k c.arg-item.result refl c.loop-arg-test.true c.arg-item.is in
    let is = slice_get-map text_of c.args.args.now k ∙ ap (option_map text_of) item in
    let lt = c.loop-arg-test.true in
    let w = c.in_ok-write.ensures in
    let text = rw c.as_str.ensures.value at c.in_ok-text.ensures in
    let there = has_next texts k (omega (arith, lt, length-map c.args.args.now text_of)) in
    let done : c.in_ok-write.field-0 ≡ true = rw (w.done, inv.2, inv.0, there) refl in
    let put : written (filled texts k) 0 c.loop-arg.at (value.Text c.in_ok-text.text) ≡ filled texts (suc k) =
    rw (inv.0, text) (further texts k (text_of c.arg-item.result) is) in
    let next : suc k ≡ k + 1 = omega arith in (
      omega (arith, inv.0),
      inv.1,
      w.written done ∙ ap (λ (s : StoreState). after_write s 0 c.loop-arg.at (value.Text c.in_ok-text.text)) inv.2
          ∙ ap (λ h. record (g.S.Store.state c.args.store.now) { now = h }) (put ∙ ap (filled texts) next),
    )

pub returns-clause-made : goal.returns-clause-made
returns-clause-made g c =
    let texts = map text_of c.args.args.now in
    let inv = c.loop-arg.invariant in
    let last = c.loop-arg.auto.arg-index-end in
    let all = c.loop-arg-test.false in
    let end : c.loop-arg.arg-index ≡ length texts = omega (arith, last, all, length-map c.args.args.now text_of) in
    ap (λ (s : StoreState). s.now) inv.2 ∙ ap (filled texts) end ∙ ends texts
