use Rattle.std.proofs.Common.{◌≡◌, ◌<◌, ◌++◌, false, length, get_or, sym, ap, ◌∙◌, arith, subst, List, ℤ}
use Rattle.std.proofs.lemmas.List.Elements.{All-same}
use Rattle.std.specs.List.{All}
use Rattle.clause_form.specs.Clauses.{NamesWithin}
use Rattle.gate_net.specs.Net.{IsNet}
use Rattle.gate_net.specs.Encoding.{gate_clauses}
use Rattle.gate_net.specs.declared.gate.Gate.{Gate}
use Rattle.gate_net.specs.declared.gate.Gate.TheVariants.{Constant}
use Rattle.gate_net.proofs.GateClauses.{clauses-more}
use Rattle.gate_net.proofs.Meaning.{all_clauses, all-few, all-named, finished, stands_for}
use Rattle.gate_net.proofs.net.Net.clauses.Goals as goal

pub loop-place-preserved : goal.loop-place-preserved
loop-place-preserved c =
    let k = c.loop-place.place in
    let net = c.args.self.now in
    let same : c.deref-gate-items.result.now ≡ net = c.deref-gate-items.ensures.value ∙ c.self.view_is in
    let h : k < length net = omega (arith, ap length c.self.view_is) in
    let add : List Gate → List (List ℤ) → List (List ℤ) = λ gates fs. fs ++ gate_clauses (record { place = k }) (get_or gates k (Constant false)) in
    c.in_ok-push_gate.ensures
    ∙ ap (λ gates. add gates c.loop-place.clauses.items) same
    ∙ ap (add net) c.loop-place.invariant
    ∙ sym (clauses-more net k (Constant false) h)

pub invariant_of-result : goal.invariant_of-result
invariant_of-result c =
    let net = c.args.self.now in
    let is : IsNet net = subst IsNet c.self.view_is c.self.invariant in
    let whole : c.push_one.new.clauses.items ≡ all_clauses net c.args.root = finished net c.args.root c.loop-place.place c.loop-place.clauses.items c.push_one.new.clauses.items (omega (arith, ap length c.self.view_is)) c.loop-place.invariant c.in_ok-push_one.ensures in
    let count : length net ≡ c.nodes.result = sym c.nodes.ensures.count in
    record {
      few_variables = omega (arith, c.nodes.ensures.few);
      few_clauses = omega (arith, ap length whole, all-few net c.args.root, is.few);
      named = All-same (NamesWithin c.nodes.result) c.push_one.new.clauses.items (all_clauses net c.args.root) whole (subst (λ m. All (NamesWithin m) (all_clauses net c.args.root)) count (all-named net c.args.root is c.requires));
    }

pub returns-clause-few : goal.returns-clause-few
returns-clause-few c =
    let net = c.args.self.now in
    let whole : c.push_one.new.clauses.items ≡ all_clauses net c.args.root = finished net c.args.root c.loop-place.place c.loop-place.clauses.items c.push_one.new.clauses.items (omega (arith, ap length c.self.view_is)) c.loop-place.invariant c.in_ok-push_one.ensures in
    omega (arith, ap length whole, all-few net c.args.root)

pub returns-clause-meaning : goal.returns-clause-meaning
returns-clause-meaning c =
    let net = c.args.self.now in
    let is : IsNet net = subst IsNet c.self.view_is c.self.invariant in
    stands_for net c.args.root c.push_one.new.clauses.items is c.requires
    (finished net c.args.root c.loop-place.place c.loop-place.clauses.items c.push_one.new.clauses.items (omega (arith, ap length c.self.view_is)) c.loop-place.invariant c.in_ok-push_one.ensures)
