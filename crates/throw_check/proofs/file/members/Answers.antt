use Rattle.std.proofs.Common.{◌≡◌, ◌∙◌, ◌+◌, List, [], ◌∷◌, ◌++◌, ap, arith, drop, flat_map, rules}
use Rattle.std.proofs.lemmas.Grind.{common_steps}
use Rattle.java_syntax.specs.declared.class.Member.{Member}
use Rattle.token_reading.specs.declared.fault.Fault.{Fault}
use Rattle.java_names.specs.Refusals.{Refuses}
use Rattle.java_names.proofs.RefusalLemmas.{refuses_left}
use Rattle.throw_check.specs.Files.{member_faults}
use Rattle.throw_check.proofs.file.members.Goals as goal

pub returns-in_err-member : goal.returns-in_err-member
returns-in_err-member c =
    let broken = member_faults c.args.symbols.now c.args.class c.args.handlers.now.declared in
    let rest = drop (c.loop-tree.tree-index + 1) c.args.list.now in
    let is : drop c.loop-tree.tree-index c.args.list.now ≡ c.tree-item.result ∷ rest = grind (arith, common_steps) in
    let whole : flat_map broken c.args.list.now ≡ broken c.tree-item.result ++ flat_map broken rest
    = c.loop-tree.invariant ∙ ap (λ (list : List Member). flat_map broken list) is in
    let among : Refuses (flat_map broken c.args.list.now) c.in_err-member.field-0.0
    = rw whole (refuses_left (broken c.tree-item.result) (flat_map broken rest) c.in_err-member.field-0.0 c.in_err-member.ensures) in
    search rules

pub loop-tree-preserved : goal.loop-tree-preserved
loop-tree-preserved c =
    let broken = member_faults c.args.symbols.now c.args.class c.args.handlers.now.declared in
    let rest = drop (c.loop-tree.tree-index + 1) c.args.list.now in
    let is : drop c.loop-tree.tree-index c.args.list.now ≡ c.tree-item.result ∷ rest = grind (arith, common_steps) in
    let whole : flat_map broken c.args.list.now ≡ broken c.tree-item.result ++ flat_map broken rest
    = c.loop-tree.invariant ∙ ap (λ (list : List Member). flat_map broken list) is in
    whole ∙ ap (λ (faults : List Fault). faults ++ flat_map broken rest) c.in_ok-member.ensures

pub returns : goal.returns
returns c =
    let broken = member_faults c.args.symbols.now c.args.class c.args.handlers.now.declared in
    let is : drop c.loop-tree.tree-index c.args.list.now ≡ [] = grind (arith, common_steps) in
    c.loop-tree.invariant ∙ ap (λ (list : List Member). flat_map broken list) is
