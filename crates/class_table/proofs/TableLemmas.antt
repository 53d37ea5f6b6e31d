-- What holds of a finished table.
use Rattle.std.proofs.Common.{◌≡◌, ◌==◌, ◌+◌, ◌-◌, ◌<◌, ◌≤◌, ℕ, zero, suc, List, [], ◌∷◌, ◌++◌, append-nil, map, filter, flat_map, reverse, length, Option, Some, None, option_map, option_and_then, Bool, true, false, ◌&&◌, arith, sym, ◌∙◌, refl, ap, subst, inl, inr}
use Rattle.std.specs.List.{slice_get, list_all, range_with_len}
use Rattle.std.specs.Option.{option_map_or}
use Rattle.std.proofs.lemmas.Bool.{and_from, and_parts, cases_lt, eq-eqb}
use Rattle.std.proofs.lemmas.Grind.{flat_map-append}
use Rattle.std.proofs.lemmas.List.{length-append, length-map, map-append, reverse-append}
use Rattle.std.proofs.lemmas.List.Elements.{filter-append}
use Rattle.std.proofs.lemmas.Option.{slice_get-map, slice_get_within}
use Rattle.java_syntax.specs.declared.class.ClassTree.{ClassTree}
use Rattle.java_syntax.specs.declared.class.Member.{Member}
use Rattle.java_syntax.specs.declared.class.Member.TheVariants.{Field, Method, Maker, Empty}
use Rattle.class_table.specs.declared.declaration.Declaration.{Declaration}
use Rattle.class_table.specs.declared.row.ClassRow.{ClassRow}
use Rattle.class_table.specs.declared.row.FieldRow.{FieldRow}
use Rattle.class_table.specs.Names.{Name, built_in_names, class_names}
use Rattle.class_table.specs.Members.{fields_in, is_instance}
use Rattle.class_table.specs.BuiltIn.{built_in}
use Rattle.class_table.specs.Declarations.{declarations, declared_of}
use Rattle.class_table.specs.Ancestors.{AllEnd, IsKnown, climb, line_at, line_of, parent_in, parents_of, superclasses, up}
use Rattle.class_table.specs.Faults.{Clear, InSome, OfRule}
use Rattle.class_table.specs.Fields.{fields_along, fields_at, instance_count, instance_total, numbered, placed_at}
use Rattle.class_table.specs.Rules.{TooManyFields}
use Rattle.class_table.specs.Table.{row_of, rows_from}
use Rattle.class_table.specs.TableFacts.{IsRow, IsTable, fields_above, line_above, places}
use Rattle.class_table.proofs.AncestorLemmas.{climb_top}
use Rattle.class_table.proofs.Faults.{not_absent}
use Rattle.class_table.proofs.KnownLemmas.{known_of, names_length}
use Rattle.class_table.proofs.RowLemmas.{line_climbs, total_cons}

none_some : {A : Type 0} (x : A) → None ≡ Some x → ⊥
none_some x e = cc

-- ---- lines

-- the line of a superclass
line_over : List Declaration → Option ℕ → List ℕ
line_over declared None = []
line_over declared (Some p) = line_at declared p

climb_ends : (ps : List (Option ℕ)) (n : ℕ) (o : Option ℕ) → option_and_then (up ps n) o ≡ None → climb ps n o ≡ climb ps (suc n) o
unfolding climb up
climb_ends ps zero None h = refl
climb_ends ps zero (Some c) h = absurd (none_some c (sym h))
climb_ends ps (suc n) None h = refl
climb_ends ps (suc n) (Some c) h = ap (λ xs. c ∷ xs) (climb_ends ps n (parent_in ps c) h)

parent_is : (declared : List Declaration) (c : ℕ) (d : Declaration) → slice_get declared c ≡ Some d → parent_in (parents_of declared) c ≡ d.parent
parent_is declared c d found = rw (slice_get-map (λ (e : Declaration). e.parent) declared c, found) refl

up_suc : (ps : List (Option ℕ)) (n c : ℕ) → up ps (suc n) c ≡ option_and_then (up ps n) (parent_in ps c)
unfolding up
up_suc ps n c = refl

-- the line of a class is the class, and then the line of its superclass
line_step : (declared : List Declaration) (c : ℕ) (d : Declaration) → AllEnd (parents_of declared) → IsKnown (parents_of declared) → slice_get declared c ≡ Some d → line_at declared c ≡ c ∷ line_over declared d.parent
unfolding line_over
line_step declared c d ends known found =
    let ps : List (Option ℕ) = parents_of declared in
    let within : c < length declared = slice_get_within declared c d found in
    let size : length ps ≡ length declared = length-map declared (λ e. e.parent) in
    let low : c < length ps = omega arith in
    let some : length ps ≡ suc (length ps - 1) = omega arith in
    let parent : parent_in ps c ≡ d.parent = parent_is declared c d found in
    let top : up ps (suc (length ps - 1)) c ≡ None = ap (λ n. up ps n c) (sym some) ∙ ends.ends c low in
    let ended : option_and_then (up ps (length ps - 1)) d.parent ≡ None = ap (option_and_then (up ps (length ps - 1))) (sym parent) ∙ sym (up_suc ps (length ps - 1) c) ∙ top in
    let more : climb ps (length ps - 1) d.parent ≡ climb ps (length ps) d.parent = climb_ends ps (length ps - 1) d.parent ended ∙ ap (λ n. climb ps n d.parent) (sym some) in
    let here : (p : ℕ) → p < length declared → (o : Option Declaration) → slice_get declared p ≡ o → line_of ps p ≡ option_map_or (λ e. line_of ps p) o [] =
    λ p below o. elim o as (λ v. slice_get declared p ≡ v → line_of ps p ≡ option_map_or (λ e. line_of ps p) v []) [
      | None ↦ λ is. absurd (not_absent declared p below is)
      | Some e ↦ λ is. refl
    ] in
    let cases : (o : Option ℕ) → d.parent ≡ o → climb ps (length ps) o ≡ line_over declared o =
    λ o. elim o as (λ v. d.parent ≡ v → climb ps (length ps) v ≡ line_over declared v) [
      | None ↦ λ is. climb_top ps (length ps)
      | Some p ↦ λ is. let below : p < length ps = known.known c p (parent ∙ is) in here p (rw (← size) below) (slice_get declared p) refl
    ] in
    line_climbs declared c d found ∙ ap (λ xs. c ∷ xs) (ap (climb ps (length ps - 1)) parent ∙ more ∙ cases d.parent refl)

-- ---- places

range_add : (a m n : ℕ) → range_with_len a (m + n) ≡ range_with_len a m ++ range_with_len (a + m) n
range_add a zero n = let e : 0 + n ≡ n = omega arith in let f : a + 0 ≡ a = omega arith in rw (e, f) refl
range_add a (suc m) n =
    let e : suc m + n ≡ suc (m + n) = omega arith in
    let f : a + suc m ≡ (a + 1) + m = omega arith in
    rw (e, f) (ap (λ xs. a ∷ xs) (range_add (a + 1) m n))

places_numbered : (n : ℕ) (fields : List FieldRow) → places (numbered n fields) ≡ map Some (range_with_len n (length (filter is_instance fields)))
places_numbered n [] = refl
places_numbered n (f ∷ more) =
    let Goal : Type 0 = places (numbered n (f ∷ more)) ≡ map Some (range_with_len n (length (filter is_instance (f ∷ more)))) in
    let cases : (b : Bool) → is_instance f ≡ b → Goal =
    λ b. elim b as (λ v. is_instance f ≡ v → Goal) [
      | true ↦ λ is. rw (is, is) (ap (λ xs. Some n ∷ xs) (places_numbered (n + 1) more))
      | false ↦ λ is. rw (is, is) (places_numbered n more)
    ] in
    cases (is_instance f) refl

count_numbered : (n : ℕ) (fields : List FieldRow) → length (filter is_instance (numbered n fields)) ≡ length (filter is_instance fields)
count_numbered n [] = refl
count_numbered n (f ∷ more) =
    let Goal : Type 0 = length (filter is_instance (numbered n (f ∷ more))) ≡ length (filter is_instance (f ∷ more)) in
    let cases : (b : Bool) → is_instance f ≡ b → Goal =
    λ b. elim b as (λ v. is_instance f ≡ v → Goal) [
      | true ↦ λ is. rw (is, is) (ap suc (count_numbered (n + 1) more))
      | false ↦ λ is. rw (is, is) (count_numbered n more)
    ] in
    cases (is_instance f) refl

numbered_again : (n : ℕ) (fields : List FieldRow) → numbered n fields ≡ numbered n (numbered n fields)
numbered_again n [] = refl
numbered_again n (f ∷ more) =
    let Goal : Type 0 = numbered n (f ∷ more) ≡ numbered n (numbered n (f ∷ more)) in
    let cases : (b : Bool) → is_instance f ≡ b → Goal =
    λ b. elim b as (λ v. is_instance f ≡ v → Goal) [
      | true ↦ λ is. rw (is, is) (ap (λ xs. record f { place = Some n } ∷ xs) (numbered_again (n + 1) more))
      | false ↦ λ is. rw (is, is) (ap (λ xs. record f { place = None } ∷ xs) (numbered_again n more))
    ] in
    cases (is_instance f) refl

owner_numbered : (c n : ℕ) (fields : List FieldRow) → list_all (λ f. f.owner == c) (numbered n fields) ≡ list_all (λ f. f.owner == c) fields
owner_numbered c n [] = refl
owner_numbered c n (f ∷ more) =
    let Goal : Type 0 = list_all (λ g. g.owner == c) (numbered n (f ∷ more)) ≡ list_all (λ g. g.owner == c) (f ∷ more) in
    let cases : (b : Bool) → is_instance f ≡ b → Goal =
    λ b. elim b as (λ v. is_instance f ≡ v → Goal) [
      | true ↦ λ is. rw is (ap (λ rest. (f.owner == c) && rest) (owner_numbered c (n + 1) more))
      | false ↦ λ is. rw is (ap (λ rest. (f.owner == c) && rest) (owner_numbered c n more))
    ] in
    cases (is_instance f) refl

-- the fields along a line are those along the rest, and then those of its class
fields_step : (declared : List Declaration) (c : ℕ) (line : List ℕ) → fields_along declared (c ∷ line) ≡ fields_along declared line ++ placed_at declared c
fields_step declared c line = ap (flat_map (placed_at declared)) (reverse-append (c ∷ []) line) ∙ flat_map-append (placed_at declared) (reverse line) (c ∷ []) ∙ ap (λ xs. fields_along declared line ++ xs) (append-nil (placed_at declared c))

count_along : (declared : List Declaration) (line : List ℕ) → length (filter is_instance (fields_along declared line)) ≡ instance_total declared line
count_along declared [] = refl
count_along declared (c ∷ line) =
    let before : List FieldRow = fields_along declared line in
    let own : List FieldRow = placed_at declared c in
    let one : length (filter is_instance (fields_along declared (c ∷ line))) ≡ length (filter is_instance before ++ filter is_instance own) = ap (λ xs. length (filter is_instance xs)) (fields_step declared c line) ∙ ap length (filter-append is_instance before own) in
    let two : length (filter is_instance before ++ filter is_instance own) ≡ length (filter is_instance before) + length (filter is_instance own) = length-append (filter is_instance before) (filter is_instance own) in
    let three : length (filter is_instance own) ≡ instance_count declared c = count_numbered (instance_total declared (superclasses declared c)) (fields_at declared c) in
    let rest = count_along declared line in
    let all = total_cons declared c line in
    omega arith

-- the places along a line whose rest is the line of a superclass
places_step : (declared : List Declaration) (c : ℕ) (rest : List ℕ) → superclasses declared c ≡ rest → places (fields_along declared rest) ≡ map Some (range_with_len 0 (instance_total declared rest)) → places (fields_along declared (c ∷ rest)) ≡ map Some (range_with_len 0 (instance_total declared (c ∷ rest)))
places_step declared c rest above before =
    let n : ℕ = instance_total declared rest in
    let own : List FieldRow = fields_at declared c in
    let here : places (placed_at declared c) ≡ map Some (range_with_len n (instance_count declared c)) = places_numbered (instance_total declared (superclasses declared c)) own ∙ ap (λ xs. map Some (range_with_len (instance_total declared xs) (instance_count declared c))) above in
    let one : places (fields_along declared (c ∷ rest)) ≡ places (fields_along declared rest ++ placed_at declared c) = ap places (fields_step declared c rest) in
    let two : places (fields_along declared rest ++ placed_at declared c) ≡ places (fields_along declared rest) ++ places (placed_at declared c) = ap (map (λ (f : FieldRow). f.place)) (filter-append is_instance (fields_along declared rest) (placed_at declared c)) ∙ map-append (λ (f : FieldRow). f.place) (filter is_instance (fields_along declared rest)) (filter is_instance (placed_at declared c)) in
    let total : instance_total declared (c ∷ rest) ≡ n + instance_count declared c = let e = total_cons declared c rest in omega arith in
    let zero_first : 0 + n ≡ n = omega arith in
    let split : range_with_len 0 (n + instance_count declared c) ≡ range_with_len 0 n ++ range_with_len n (instance_count declared c) = range_add 0 n (instance_count declared c) ∙ ap (λ k. range_with_len 0 n ++ range_with_len k (instance_count declared c)) zero_first in
    let whole : map Some (range_with_len 0 (n + instance_count declared c)) ≡ map Some (range_with_len 0 n) ++ map Some (range_with_len n (instance_count declared c)) = ap (map Some) split ∙ map-append Some (range_with_len 0 n) (range_with_len n (instance_count declared c)) in
    one ∙ two ∙ rw (before, here, total) (sym whole)

drop_line : (declared : List Declaration) (c : ℕ) (rest : List ℕ) → line_at declared c ≡ c ∷ rest → superclasses declared c ≡ rest
drop_line declared c rest is = rw is refl

places_up : (declared : List Declaration) (n c : ℕ) (d : Declaration) → AllEnd (parents_of declared) → IsKnown (parents_of declared) → slice_get declared c ≡ Some d → up (parents_of declared) n c ≡ None → places (fields_along declared (line_at declared c)) ≡ map Some (range_with_len 0 (instance_total declared (line_at declared c)))
unfolding up line_over
places_up declared zero c d ends known found top = absurd (none_some c (sym top))
places_up declared (suc n) c d ends known found top =
    let ps : List (Option ℕ) = parents_of declared in
    let parent : parent_in ps c ≡ d.parent = parent_is declared c d found in
    let ended : option_and_then (up ps n) d.parent ≡ None = ap (option_and_then (up ps n)) (sym parent) ∙ top in
    let Fits : List ℕ → Type 0 = λ line. places (fields_along declared line) ≡ map Some (range_with_len 0 (instance_total declared line)) in
    let at : (p : ℕ) → up ps n p ≡ None → (o : Option Declaration) → slice_get declared p ≡ o → Fits (line_at declared p) =
    λ p over o. elim o as (λ v. slice_get declared p ≡ v → Fits (line_at declared p)) [
      | None ↦ λ is. let none : line_at declared p ≡ [] = rw is refl in subst Fits (sym none) refl
      | Some e ↦ λ is. places_up declared n p e ends known is over
    ] in
    let cases : (o : Option ℕ) → option_and_then (up ps n) o ≡ None → Fits (line_over declared o) =
    λ o. elim o as (λ v. option_and_then (up ps n) v ≡ None → Fits (line_over declared v)) [
      | None ↦ λ over. refl
      | Some p ↦ λ over. at p over (slice_get declared p) refl
    ] in
    let line : line_at declared c ≡ c ∷ line_over declared d.parent = line_step declared c d ends known found in
    subst Fits (sym line) (places_step declared c (line_over declared d.parent) (drop_line declared c (line_over declared d.parent) line) (cases d.parent ended))

-- ---- owners

all_owned : ℕ → List Declaration → Bool
all_owned n [] = true
all_owned n (d ∷ more) = list_all (λ f. f.owner == n) d.fields && all_owned (n + 1) more

owned_in : (n : ℕ) (members : List Member) → list_all (λ f. f.owner == n) (fields_in n members) ≡ true
owned_in n [] = refl
owned_in n (Field f ∷ more) = and_from (n == n) (list_all (λ g. g.owner == n) (fields_in n more)) (eq-eqb n n refl) (owned_in n more)
owned_in n (Method m ∷ more) = owned_in n more
owned_in n (Maker m ∷ more) = owned_in n more
owned_in n (Empty ∷ more) = owned_in n more

owned_declared : (names : List Name) (n : ℕ) (classes : List ClassTree) → all_owned n (declarations names n classes) ≡ true
unfolding all_owned
owned_declared names n [] = refl
owned_declared names n (c ∷ more) = and_from (list_all (λ f. f.owner == n) (fields_in n c.members)) (all_owned (n + 1) (declarations names (n + 1) more)) (owned_in n c.members) (owned_declared names (n + 1) more)

owned_all : (classes : List ClassTree) → all_owned 0 (declared_of classes) ≡ true
unfolding all_owned declared_of built_in
owned_all classes = owned_declared (class_names classes) 18 classes

owned_at : (n c : ℕ) (declared : List Declaration) (d : Declaration) → all_owned n declared ≡ true → slice_get declared c ≡ Some d → list_all (λ f. f.owner == n + c) d.fields ≡ true
unfolding all_owned
owned_at n c [] d all found = absurd (none_some d found)
owned_at n zero (e ∷ more) d all found =
    let same : e ≡ d = cc in
    let whole : n + 0 ≡ n = omega arith in
    rw (← same, whole) ((and_parts (list_all (λ f. f.owner == n) e.fields) (all_owned (n + 1) more) all).0)
owned_at n (suc c) (e ∷ more) d all found =
    let next : n + suc c ≡ (n + 1) + c = omega arith in
    rw next (owned_at (n + 1) c more d (and_parts (list_all (λ f. f.owner == n) e.fields) (all_owned (n + 1) more) all).1 found)

-- ---- rows

rows_from_at : (all declared : List Declaration) (n c : ℕ) → slice_get (rows_from all n declared) c ≡ option_map (row_of all (n + c)) (slice_get declared c)
rows_from_at all [] n c = refl
rows_from_at all (d ∷ more) n zero = let e : n + 0 ≡ n = omega arith in rw e refl
rows_from_at all (d ∷ more) n (suc c) = let e : n + suc c ≡ (n + 1) + c = omega arith in rw e (rows_from_at all more (n + 1) c)

rows_length : (all declared : List Declaration) (n : ℕ) → length (rows_from all n declared) ≡ length declared
rows_length all [] n = refl
rows_length all (d ∷ more) n = let e = rows_length all more (n + 1) in omega arith

abbrev rows_table : List Declaration → List ClassRow
rows_table declared = rows_from declared 0 declared

row_is_at : (declared : List Declaration) (c : ℕ) → slice_get (rows_from declared 0 declared) c ≡ option_map (row_of declared c) (slice_get declared c)
row_is_at declared c = let e : 0 + c ≡ c = omega arith in rows_from_at declared declared 0 c ∙ ap (λ n. option_map (row_of declared n) (slice_get declared c)) e

above_line : (declared : List Declaration) (o : Option ℕ) → line_above (rows_table declared) o ≡ line_over declared o
unfolding line_over
above_line declared None = refl
above_line declared (Some p) =
    let at : (o : Option Declaration) → slice_get declared p ≡ o → option_map_or (λ row. row.line) (option_map (row_of declared p) (slice_get declared p)) [] ≡ line_at declared p =
    λ o. elim o as (λ v. slice_get declared p ≡ v → option_map_or (λ row. row.line) (option_map (row_of declared p) (slice_get declared p)) [] ≡ line_at declared p) [
      | None ↦ λ is. let none : line_at declared p ≡ [] = rw is refl in ap (λ v. option_map_or (λ row. row.line) (option_map (row_of declared p) v) []) is ∙ sym none
      | Some d ↦ λ is. ap (λ v. option_map_or (λ row. row.line) (option_map (row_of declared p) v) []) is
    ] in
    ap (λ v. option_map_or (λ row. row.line) v []) (row_is_at declared p) ∙ at (slice_get declared p) refl

above_fields : (declared : List Declaration) (o : Option ℕ) → fields_above (rows_table declared) o ≡ fields_along declared (line_over declared o)
unfolding line_over
above_fields declared None = refl
above_fields declared (Some p) =
    let at : (o : Option Declaration) → slice_get declared p ≡ o → option_map_or (λ row. row.fields) (option_map (row_of declared p) (slice_get declared p)) [] ≡ fields_along declared (line_at declared p) =
    λ o. elim o as (λ v. slice_get declared p ≡ v → option_map_or (λ row. row.fields) (option_map (row_of declared p) (slice_get declared p)) [] ≡ fields_along declared (line_at declared p)) [
      | None ↦ λ is. let none : line_at declared p ≡ [] = rw is refl in ap (λ v. option_map_or (λ row. row.fields) (option_map (row_of declared p) v) []) is ∙ sym (ap (fields_along declared) none)
      | Some d ↦ λ is. ap (λ v. option_map_or (λ row. row.fields) (option_map (row_of declared p) v) []) is
    ] in
    ap (λ v. option_map_or (λ row. row.fields) v []) (row_is_at declared p) ∙ at (slice_get declared p) refl

row_facts : (classes : List ClassTree) (c : ℕ) (d : Declaration) → AllEnd (parents_of (declared_of classes)) → IsKnown (parents_of (declared_of classes)) → Clear (InSome (declared_of classes) (λ number e. OfRule 9 (TooManyFields (declared_of classes) number e))) → slice_get (declared_of classes) c ≡ Some d → IsRow (rows_table (declared_of classes)) c (row_of (declared_of classes) c d)
row_facts classes c d ends known clear found =
    let declared : List Declaration = declared_of classes in
    let ps : List (Option ℕ) = parents_of declared in
    let size : length ps ≡ length declared = length-map declared (λ e. e.parent) in
    let rows : length (rows_from declared 0 declared) ≡ length declared = rows_length declared declared 0 in
    let within : c < length declared = slice_get_within declared c d found in
    let rest : List ℕ = line_over declared d.parent in
    let line : line_at declared c ≡ c ∷ rest = line_step declared c d ends known found in
    let above : superclasses declared c ≡ rest = drop_line declared c rest line in
    let over : line_above (rows_table declared) d.parent ≡ rest = above_line declared d.parent in
    let before : fields_above (rows_table declared) d.parent ≡ fields_along declared rest = above_fields declared d.parent in
    let own : fields_at declared c ≡ d.fields = rw found refl in
    let start : instance_total declared (superclasses declared c) ≡ length (filter is_instance (fields_above (rows_table declared) d.parent)) = ap (instance_total declared) above ∙ sym (count_along declared rest) ∙ ap (λ xs. length (filter is_instance xs)) (sym before) in
    let count : length (filter is_instance (fields_along declared (line_at declared c))) ≡ instance_total declared (line_at declared c) = count_along declared (line_at declared c) in
    let few : instance_total declared (line_at declared c) ≤ 255 = elim (cases_lt 255 (instance_total declared (line_at declared c))) [
      | inl many ↦ absurd (clear.none (record { rule = 9; at = d.at }) (record { number = c; element = d; found = found; holds = record { rule_is = refl; holds = (many, refl) } }))
      | inr low ↦ low
    ] in
    record {
      superclass = λ p is. (let below : p < length ps = known.known c p (parent_is declared c d found ∙ is) in omega arith);
      line = line ∙ ap (λ xs. c ∷ xs) (sym over);
      own = placed_at declared c;
      owner = owner_numbered c (instance_total declared (superclasses declared c)) (fields_at declared c) ∙ rw own (let e : 0 + c ≡ c = omega arith in subst (λ n. list_all (λ f. f.owner == n) d.fields ≡ true) e (owned_at 0 c declared d (owned_all classes) found));
      fields = ap (fields_along declared) line ∙ fields_step declared c rest ∙ ap (λ xs. xs ++ placed_at declared c) (sym before);
      numbered_on = numbered_again (instance_total declared (superclasses declared c)) (fields_at declared c) ∙ ap (λ n. numbered n (placed_at declared c)) start;
      placed = places_up declared (length ps) c d ends known found (ends.ends c (rw size within)) ∙ ap (λ n. map Some (range_with_len 0 n)) (sym count);
      few = rw count few;
    }

table_rows : (classes : List ClassTree) → AllEnd (parents_of (declared_of classes)) → IsKnown (parents_of (declared_of classes)) → Clear (InSome (declared_of classes) (λ number e. OfRule 9 (TooManyFields (declared_of classes) number e))) → (c : ℕ) (row : ClassRow) → slice_get (rows_from (declared_of classes) 0 (declared_of classes)) c ≡ Some row → IsRow (rows_table (declared_of classes)) c row
table_rows classes ends known clear c row found =
    let declared : List Declaration = declared_of classes in
    let cases : (o : Option Declaration) → slice_get declared c ≡ o → option_map (row_of declared c) o ≡ Some row → IsRow (rows_table declared) c row =
    λ o. elim o as (λ v. slice_get declared c ≡ v → option_map (row_of declared c) v ≡ Some row → IsRow (rows_table declared) c row) [
      | None ↦ λ is no. absurd (none_some row no)
      | Some d ↦ λ is there. let same : row_of declared c d ≡ row = cc in subst (IsRow (rows_table declared) c) same (row_facts classes c d ends known clear is)
    ] in
    cases (slice_get declared c) refl (sym (row_is_at declared c) ∙ found)

-- ---- names

row_names : (all declared : List Declaration) (n : ℕ) → map (λ row. row.name) (rows_from all n declared) ≡ map (λ d. d.name) declared
row_names all [] n = refl
row_names all (d ∷ more) n = ap (λ xs. d.name ∷ xs) (row_names all more (n + 1))

file_names : (names : List Name) (n : ℕ) (classes : List ClassTree) → map (λ d. d.name) (declarations names n classes) ≡ map (λ c. c.name.name) classes
file_names names n [] = refl
file_names names n (c ∷ more) = ap (λ xs. c.name.name ∷ xs) (file_names names (n + 1) more)

built_names : map (λ (d : Declaration). d.name) built_in ≡ built_in_names
unfolding built_in built_in_names
built_names = refl

declared_names : (classes : List ClassTree) → map (λ d. d.name) (declared_of classes) ≡ class_names classes
unfolding declared_of
declared_names classes =
    map-append (λ (d : Declaration). d.name) built_in (declarations (class_names classes) 18 classes)
    ∙ ap (λ xs. map (λ (d : Declaration). d.name) built_in ++ xs) (file_names (class_names classes) 18 classes)
    ∙ ap (λ xs. xs ++ map (λ c. c.name.name) classes) built_names

pub table_facts : (classes : List ClassTree) → length classes ≤ 1000 → AllEnd (parents_of (declared_of classes)) → Clear (InSome (declared_of classes) (λ number e. OfRule 9 (TooManyFields (declared_of classes) number e))) → IsTable (record { classes = rows_table (declared_of classes); names = class_names classes })
table_facts classes few ends clear =
    let size = names_length classes in
    record {
      few = omega arith;
      names_are = sym (declared_names classes) ∙ sym (row_names (declared_of classes) (declared_of classes) 0);
      rows = table_rows classes ends (known_of classes) clear;
    }
