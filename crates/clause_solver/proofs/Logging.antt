-- A log with one line more.
use Rattle.std.proofs.Common.{◌≡◌, ℕ, ◌+◌, ◌^◌, ◌<◌, ℤ, List, [], ◌∷◌, ◌++◌, length, take, refl, sym, ◌∙◌, ap, subst, inl, inr, arith, length-append, append_assoc, append-nil, Ok, Some, Err}
use Rattle.std.specs.Prelude.{slice_index_or}
use Rattle.std.proofs.Math.Seq.{take-append_seam}
use Rattle.std.proofs.lemmas.Bool.{cases_lt}
use Rattle.std.proofs.lemmas.List.{get_or_append_left, get_or-append_right, take-append-le}
use Rattle.clause_form.specs.declared.derivation.Line.{Line}
use Rattle.clause_form.specs.Derivation.{clause_of, derived_after, derived, Adds, Refutes, Spends}
use Rattle.clause_form.proofs.Chains.{some_or_none, derived_after-made}
use Rattle.std.specs.List.{All}
use Rattle.clause_form.specs.Clauses.{has}
use Rattle.clause_solver.specs.Assigned.{Assigned}
use Rattle.clause_solver.specs.Propagation.{AreNamed}
use Rattle.clause_solver.specs.Solving.{IsLog}
use Rattle.clause_solver.proofs.Noted.{abs-literal}
use Rattle.clause_solver.proofs.Counting.{NamedWithin, fewer}
use Rattle.clause_solver.proofs.Decisions.{last_item}

derived_after-push : (given made all : List (List ℤ)) (log : List Line) (line : Line) (c : List ℤ)
    → derived_after given made log ≡ Ok all → clause_of (given ++ all) line ≡ Some c
    → derived_after given made (log ++ line ∷ []) ≡ Ok (all ++ c ∷ [])
derived_after-push given made all [] line c h e =
    let same : made ≡ all = cc in
    derived_after-made given made line [] c (ap (λ cs. clause_of (given ++ cs) line) same ∙ e) ∙ ap (λ cs. Ok (cs ++ c ∷ [])) same
derived_after-push given made all (first ∷ log) line c h e = elim (some_or_none (clause_of (given ++ made) first)) [
  | inl r ↦
      derived_after-made given made first (log ++ line ∷ []) r.0 r.1
      ∙ derived_after-push given (made ++ r.0 ∷ []) all log line c (sym (derived_after-made given made first log r.0 r.1) ∙ h) e
  | inr n ↦ let g : Err (length made + 1) ≡ Ok all = rw n at h in absurd (cc)
]

-- one line more, whose clause adds
pub run-push : (given now next : List (List ℤ)) (log : List Line) (count : ℕ) (line : Line) (c : List ℤ)
    → IsLog given now log count → clause_of now line ≡ Some c → Adds now c → next ≡ now ++ c ∷ []
    → IsLog given next (log ++ line ∷ []) (count + 1)
run-push given now next log count line c run makes adds grown =
    let long = length-append run.made (c ∷ []) in
    record {
      made = run.made ++ c ∷ [];
      all = grown ∙ ap (λ cs. cs ++ c ∷ []) run.all ∙ append_assoc given run.made (c ∷ []);
      derived_so = derived_after-push given [] run.made log line c run.derived_so (ap (λ cs. clause_of cs line) (sym run.all) ∙ makes);
      clauses = omega (arith, long, run.clauses);
      lines = omega (arith, length-append log (line ∷ []), run.lines);
      each_adds = λ k lt. elim (cases_lt k (length run.made)) [
        | inl before ↦
            let item : slice_index_or (run.made ++ c ∷ []) k [] ≡ slice_index_or run.made k [] = get_or_append_left run.made (c ∷ []) [] k before in
            let earlier : take k (run.made ++ c ∷ []) ≡ take k run.made = take-append-le k run.made (c ∷ []) (omega arith) in
            rw (item, earlier) (run.each_adds k before)
        | inr after ↦
            let here : k ≡ length run.made = omega (arith, long) in
            let item : slice_index_or (run.made ++ c ∷ []) k [] ≡ c = last_item run.made c [] k here in
            let earlier : take k (run.made ++ c ∷ []) ≡ run.made = ap (λ n. take n (run.made ++ c ∷ [])) here ∙ take-append_seam run.made (c ∷ []) in
            rw (item, earlier) (subst (λ cs. Adds cs c) run.all adds)
      ];
    }

pub run-refuted : (given now : List (List ℤ)) (log : List Line) (count : ℕ) (line : Line) → IsLog given now log count
    → clause_of now line ≡ Some [] → Refutes given (log ++ line ∷ [])
run-refuted given now log count line run makes =
    (run.made, derived_after-push given [] run.made log line [] run.derived_so (ap (λ cs. clause_of cs line) (sym run.all) ∙ makes))

pub run-spends : (given now : List (List ℤ)) (log : List Line) (count : ℕ) → IsLog given now log count
    → Spends given log count
run-spends given now log count run = record {
  made = run.made;
  derived_so = run.derived_so;
  lines = run.clauses;
  each_adds = run.each_adds;
}

-- before the first line
pub run-none : (given now : List (List ℤ)) (log : List Line) → now ≡ given → log ≡ [] → IsLog given now log 0
run-none given now log same none = record {
  made = [];
  all = same ∙ sym (append-nil given);
  derived_so = ap (derived given) none;
  clauses = refl;
  lines = ap length none;
  each_adds = λ k lt. absurd (omega arith);
}

-- fewer lines than 3 to the number of variables were made, where the clauses name these variables alone
pub run-fewer : (a : Assigned) (given now : List (List ℤ)) (log : List Line) (count : ℕ) → All (AreNamed a) now
    → IsLog given now log count → count < 3 ^ a.variables
run-fewer a given now log count named run =
    let named_made : (k : ℕ) → k < length run.made → NamedWithin a.variables (slice_index_or run.made k []) = λ k lt l h.
    let item : slice_index_or now (length given + k) [] ≡ slice_index_or run.made k [] =
    ap (λ cs. slice_index_or cs (length given + k) []) run.all
    ∙ get_or-append_right given run.made (length given) (length given + k) [] refl (omega arith)
    ∙ ap (λ i. slice_index_or run.made i []) (omega arith) in
    let r = named (length given + k) [] (omega (arith, lt, ap length run.all, length-append given run.made)) l (ap (has l) item ∙ h) in
    (abs-literal l r.0, r.1) in
    omega (arith, fewer a.variables given run.made run.each_adds named_made, run.clauses)

-- what all clauses have, the given ones have
pub run-given : (P : List ℤ → Type 0) (given now : List (List ℤ)) (log : List Line) (count : ℕ)
    → IsLog given now log count → All P now → All P given
run-given P given now log count run all k d lt =
    let item : slice_index_or now k d ≡ slice_index_or given k d = ap (λ cs. slice_index_or cs k d) run.all ∙ get_or_append_left given run.made d k lt in
    subst P item (all k d (omega (arith, lt, ap length run.all, length-append given run.made)))
