-- Lemmas that join what the parts of the check find.
use Rattle.std.proofs.Common.{◌≡◌, ◌+◌, ◌<◌, ◌≤◌, ◌++◌, ℕ, List, length, ◌^◌, arith, ◌∙◌, refl, ap, subst, inl, inr}
use Rattle.java_syntax.specs.declared.class.ClassTree.{ClassTree}
use Rattle.java_syntax.specs.declared.class.FileTree.{FileTree}
use Rattle.token_reading.specs.declared.fault.Fault.{Fault}
use Rattle.token_reading.specs.declared.fault.CheckError.{CheckError}
use Rattle.token_reading.specs.declared.fault.CheckError.TheVariants as error
use Rattle.class_table.proofs.KnownLemmas.{names_length, declared_length, known_of}
use Rattle.class_table.specs.declared.row.ClassRow.{ClassRow}
use Rattle.class_table.specs.Table.{rows_from, table_of}
use Rattle.class_table.specs.declared.declaration.Declaration.{Declaration}
use Rattle.class_table.specs.Names.{Name, class_names}
use Rattle.class_table.specs.BuiltIn.{built_in}
use Rattle.class_table.specs.Declarations.{declared_of, declarations}
use Rattle.class_table.specs.Ancestors.{AllEnd, IsKnown, parents_of}
use Rattle.class_table.specs.TableFacts.{IsTable}
use Rattle.class_table.proofs.TableLemmas.{table_facts}
use Rattle.class_table.specs.Faults.{Blames, Clear, InSome, OfRule}
use Rattle.class_table.specs.Rules.{rule_2, rule_3, rule_4, rule_5, rule_6, rule_8, rule_9, Breaks, IndexFault, MemberFault, ClassesFault, RowsFault, NamesFault, ClassFault, OwnAncestor, FieldAgain, FieldHidden, CalledAlike, SameArity, OverridesWrongly, NoMain, TooManyFields}

-- ---- the rule outside or inside

pub out : {A : Type 0} (rule : ℕ) (xs : List A) (P : ℕ → A → ℕ → Type 0) (f : Fault) → InSome xs (λ n x. OfRule rule (P n x)) f → OfRule rule (InSome xs P) f
out rule xs P f h = record { rule_is = h.holds.rule_is; holds = record { number = h.number; element = h.element; found = h.found; holds = h.holds.holds } }

pub into : {A : Type 0} (rule : ℕ) (xs : List A) (P : ℕ → A → ℕ → Type 0) (f : Fault) → OfRule rule (InSome xs P) f → InSome xs (λ n x. OfRule rule (P n x)) f
into rule xs P f h = record { number = h.holds.number; element = h.holds.element; found = h.holds.found; holds = record { rule_is = h.rule_is; holds = h.holds.holds } }

pub out_twice : {A B : Type 0} (rule : ℕ) (xs : List A) (ys : A → List B) (P : ℕ → A → ℕ → B → ℕ → Type 0) (f : Fault) → InSome xs (λ n x. InSome (ys x) (λ m y. OfRule rule (P n x m y))) f → OfRule rule (InSome xs (λ n x. InSome (ys x) (P n x))) f
out_twice rule xs ys P f h = record { rule_is = h.holds.holds.rule_is; holds = record { number = h.number; element = h.element; found = h.found; holds = record { number = h.holds.number; element = h.holds.element; found = h.holds.found; holds = h.holds.holds.holds } } }

pub into_twice : {A B : Type 0} (rule : ℕ) (xs : List A) (ys : A → List B) (P : ℕ → A → ℕ → B → ℕ → Type 0) (f : Fault) → OfRule rule (InSome xs (λ n x. InSome (ys x) (P n x))) f → InSome xs (λ n x. InSome (ys x) (λ m y. OfRule rule (P n x m y))) f
into_twice rule xs ys P f h = record { number = h.holds.number; element = h.holds.element; found = h.holds.found; holds = record { number = h.holds.holds.number; element = h.holds.holds.element; found = h.holds.holds.found; holds = record { rule_is = h.rule_is; holds = h.holds.holds.holds } } }

pub weaker : (P Q : Fault → Type 0) (e : CheckError) → ((f : Fault) → P f → Q f) → Blames P e → Blames Q e
weaker P Q error.OutOfMemory more h = tt
weaker P Q (error.Fault f) more h = more f h

-- ---- the index

pub lines_fault : (declared : List Declaration) (e : CheckError) → Blames (InSome declared (λ number d. OfRule 3 (OwnAncestor declared number d))) e → Blames (IndexFault declared) e
lines_fault declared e h = weaker _ (IndexFault declared) e (λ f is. inl is) h

pub names_fault : (declared : List Declaration) (e : CheckError) → Blames (InSome declared (λ number d. InSome d.fields (λ place g. OfRule 4 (FieldAgain d.fields place g)))) e → Blames (IndexFault declared) e
names_fault declared e h = weaker _ (IndexFault declared) e (λ f is. inr (inl is)) h

pub signatures_fault : (declared : List Declaration) (e : CheckError) → Blames (InSome declared (λ number d. InSome d.methods (λ place m. OfRule 5 (CalledAlike d.methods place m)))) e → Blames (IndexFault declared) e
signatures_fault declared e h = weaker _ (IndexFault declared) e (λ f is. inr (inr is)) h

pub index_clear : (declared : List Declaration) → Clear (InSome declared (λ number d. OfRule 3 (OwnAncestor declared number d))) → Clear (InSome declared (λ number d. InSome d.fields (λ place g. OfRule 4 (FieldAgain d.fields place g)))) → Clear (InSome declared (λ number d. InSome d.methods (λ place m. OfRule 5 (CalledAlike d.methods place m)))) → Clear (IndexFault declared)
index_clear declared a b c = record { none = λ f h. elim h [ inl x ↦ a.none f x | inr more ↦ elim more [ inl y ↦ b.none f y | inr z ↦ c.none f z ] ] }

pub ruleset index_found = (lines_fault, names_fault, signatures_fault, index_clear)

-- ---- the members

pub hidden_fault : (names : List Name) (all some : List Declaration) (e : CheckError) → Blames (InSome some (λ number d. InSome d.fields (λ place g. OfRule 4 (FieldHidden all number g)))) e → Blames (MemberFault names all some) e
hidden_fault names all some e h = weaker _ (MemberFault names all some) e (λ f is. inl is) h

pub makers_fault : (names : List Name) (all some : List Declaration) (e : CheckError) → Blames (InSome some (λ number d. InSome d.makers (λ place m. OfRule 5 (SameArity d.makers place m)))) e → Blames (MemberFault names all some) e
makers_fault names all some e h = weaker _ (MemberFault names all some) e (λ f is. inr (inl is)) h

pub overriding_fault : (names : List Name) (all some : List Declaration) (e : CheckError) → Blames (InSome some (λ number d. InSome d.methods (λ place m. OfRule 6 (OverridesWrongly names all number m)))) e → Blames (MemberFault names all some) e
overriding_fault names all some e h = weaker _ (MemberFault names all some) e (λ f is. inr (inr (inl is))) h

pub main_fault : (names : List Name) (all some : List Declaration) (e : CheckError) → Blames (OfRule 7 (NoMain some)) e → Blames (MemberFault names all some) e
main_fault names all some e h = weaker _ (MemberFault names all some) e (λ f is. inr (inr (inr is))) h

pub members_clear : (names : List Name) (all some : List Declaration) → Clear (InSome some (λ number d. InSome d.fields (λ place g. OfRule 4 (FieldHidden all number g)))) → Clear (InSome some (λ number d. InSome d.makers (λ place m. OfRule 5 (SameArity d.makers place m)))) → Clear (InSome some (λ number d. InSome d.methods (λ place m. OfRule 6 (OverridesWrongly names all number m)))) → Clear (OfRule 7 (NoMain some)) → Clear (MemberFault names all some)
members_clear names all some a b c d = record { none = λ f h. elim h [ inl x ↦ a.none f x | inr more ↦ elim more [ inl y ↦ b.none f y | inr rest ↦ elim rest [ inl z ↦ c.none f z | inr v ↦ d.none f v ] ] ] }

pub ruleset members_found = (hidden_fault, makers_fault, overriding_fault, main_fault, members_clear)

-- ---- the rows

pub member_fault : (names : List Name) (all some : List Declaration) (e : CheckError) → Blames (MemberFault names all some) e → Blames (RowsFault names all some) e
member_fault names all some e h = weaker (MemberFault names all some) (RowsFault names all some) e (λ f is. inl is) h

pub count_fault : (names : List Name) (all some : List Declaration) (e : CheckError) → Blames (InSome some (λ number d. OfRule 9 (TooManyFields all number d))) e → Blames (RowsFault names all some) e
count_fault names all some e h = weaker _ (RowsFault names all some) e (λ f is. inr is) h

pub rows_clear : (names : List Name) (all some : List Declaration) → Clear (MemberFault names all some) → Clear (InSome some (λ number d. OfRule 9 (TooManyFields all number d))) → Clear (RowsFault names all some)
rows_clear names all some a b = record { none = λ f h. elim h [ inl x ↦ a.none f x | inr y ↦ b.none f y ] }

pub ruleset rows_found = (member_fault, count_fault, rows_clear)

-- ---- the classes

pub names_of_fault : (classes : List ClassTree) (e : CheckError) → Blames (NamesFault classes) e → Blames (ClassesFault classes) e
names_of_fault classes e h = weaker (NamesFault classes) (ClassesFault classes) e (λ f is. inl is) h

pub class_fault : (classes : List ClassTree) (names : List Name) (e : CheckError) → names ≡ class_names classes → Blames (InSome classes (λ number. ClassFault names)) e → Blames (ClassesFault classes) e
class_fault classes names e is h = weaker (InSome classes (λ number. ClassFault (class_names classes))) (ClassesFault classes) e (λ f known. inr (inl known)) (subst (λ ns. Blames (InSome classes (λ number. ClassFault ns)) e) is h)

pub declared_is : (classes : List ClassTree) (built declared : List Declaration) (names : List Name) → built ≡ built_in → names ≡ class_names classes → declared ≡ built ++ declarations names 18 classes → declared ≡ declared_of classes
unfolding declared_of
declared_is classes built declared names b n is = is ∙ rw (b, n) refl

pub index_fault : (classes : List ClassTree) (declared : List Declaration) (e : CheckError) → declared ≡ declared_of classes → Blames (IndexFault declared) e → Blames (ClassesFault classes) e
index_fault classes declared e is h = weaker (IndexFault (declared_of classes)) (ClassesFault classes) e (λ f known. inr (inr known)) (subst (λ ds. Blames (IndexFault ds) e) is h)

pub classes_clear : (classes : List ClassTree) (declared : List Declaration) (names : List Name) → declared ≡ declared_of classes → names ≡ class_names classes → Clear (NamesFault classes) → Clear (InSome classes (λ number. ClassFault names)) → Clear (IndexFault declared) → Clear (ClassesFault classes)
classes_clear classes declared names is names_are a b c =
    let second : Clear (InSome classes (λ number. ClassFault (class_names classes))) = subst (λ ns. Clear (InSome classes (λ number. ClassFault ns))) names_are b in
    let third : Clear (IndexFault (declared_of classes)) = subst (λ ds. Clear (IndexFault ds)) is c in
    record { none = λ f h. elim h [ inl x ↦ a.none f x | inr more ↦ elim more [ inl y ↦ second.none f y | inr z ↦ third.none f z ] ] }

pub few_names : (classes : List ClassTree) (names : List Name) → names ≡ class_names classes → length classes ≤ 1000 → length names ≤ 1018
few_names classes names is few = let e : length names ≡ 18 + length classes = rw is (names_length classes) in omega arith

pub names_fit : (classes : List ClassTree) (names : List Name) → names ≡ class_names classes → length classes ≤ 1000 → length names < 2 ^ 32
names_fit classes names is few = let e : length names ≡ 18 + length classes = rw is (names_length classes) in omega arith

pub few_declared : (classes : List ClassTree) (declared : List Declaration) → declared ≡ declared_of classes → length classes ≤ 1000 → length declared ≤ 1018
few_declared classes declared is few = let e : length declared ≡ 18 + length classes = rw is (declared_length classes) in omega arith

pub known_declared : (classes : List ClassTree) (declared : List Declaration) → declared ≡ declared_of classes → IsKnown (parents_of declared)
known_declared classes declared is = rw is (known_of classes)

pub ruleset classes_found = (names_of_fault, class_fault, index_fault, classes_clear, declared_is, few_names, few_declared, known_declared)

-- ---- all rules

names_break : (tree : FileTree) (f : Fault) → NamesFault tree.classes f → Breaks tree f
names_break tree f h = elim h [
  | inl one ↦ inl one
  | inr more ↦ elim more [
    | inl eight ↦ (inr (inr (inr (inr (inr (inr (inr (inl (record { rule_is = eight.rule_is; holds = inl eight.holds })))))))))
    | inr nine ↦ (inr (inr (inr (inr (inr (inr (inr (inr (record { rule_is = nine.rule_is; holds = inl nine.holds })))))))))
  ]
]

class_breaks : (tree : FileTree) (f : Fault) → InSome tree.classes (λ number c. ClassFault (class_names tree.classes) c) f → Breaks tree f
class_breaks tree f known = elim known.holds [
  | inl two ↦ (inr (inl (record { rule_is = two.rule_is; holds = record { number = known.number; element = known.element; found = known.found; holds = two.holds } })))
  | inr eight ↦ (inr (inr (inr (inr (inr (inr (inr (inl (record { rule_is = eight.holds.rule_is; holds = inr (record { number = known.number; element = known.element; found = known.found; holds = record { number = eight.number; element = eight.element; found = eight.found; holds = eight.holds.holds } }) })))))))))
]

index_breaks : (tree : FileTree) (f : Fault) → IndexFault (declared_of tree.classes) f → Breaks tree f
index_breaks tree f h = elim h [
  | inl three ↦ (inr (inr (inl (out 3 (declared_of tree.classes) (OwnAncestor (declared_of tree.classes)) f three))))
  | inr more ↦ elim more [
    | inl four ↦ (let is = out_twice 4 (declared_of tree.classes) (λ d. d.fields) (λ number d. FieldAgain d.fields) f four in (inr (inr (inr (inl (record { rule_is = is.rule_is; holds = inl is.holds }))))))
    | inr five ↦ (let is = out_twice 5 (declared_of tree.classes) (λ d. d.methods) (λ number d. CalledAlike d.methods) f five in (inr (inr (inr (inr (inl (record { rule_is = is.rule_is; holds = inl is.holds })))))))
  ]
]

pub classes_break : (tree : FileTree) (f : Fault) → ClassesFault tree.classes f → Breaks tree f
classes_break tree f h = elim h [ inl x ↦ names_break tree f x | inr more ↦ elim more [ inl y ↦ class_breaks tree f y | inr z ↦ index_breaks tree f z ] ]

members_break : (tree : FileTree) (f : Fault) → MemberFault (class_names tree.classes) (declared_of tree.classes) (declared_of tree.classes) f → Breaks tree f
members_break tree f h = elim h [
  | inl four ↦ (let is = out_twice 4 (declared_of tree.classes) (λ d. d.fields) (λ number d place. FieldHidden (declared_of tree.classes) number) f four in (inr (inr (inr (inl (record { rule_is = is.rule_is; holds = inr is.holds }))))))
  | inr more ↦ elim more [
    | inl five ↦ (let is = out_twice 5 (declared_of tree.classes) (λ d. d.makers) (λ number d. SameArity d.makers) f five in (inr (inr (inr (inr (inl (record { rule_is = is.rule_is; holds = inr is.holds })))))))
    | inr rest ↦ elim rest [
      | inl six ↦ (inr (inr (inr (inr (inr (inl (out_twice 6 (declared_of tree.classes) (λ d. d.methods) (λ number d place. OverridesWrongly (class_names tree.classes) (declared_of tree.classes) number) f six)))))))
      | inr seven ↦ (inr (inr (inr (inr (inr (inr (inl seven)))))))
    ]
  ]
]

pub rows_break : (tree : FileTree) (f : Fault) → RowsFault (class_names tree.classes) (declared_of tree.classes) (declared_of tree.classes) f → Breaks tree f
rows_break tree f h = elim h [
  | inl member ↦ members_break tree f member
  | inr nine ↦ (let is = out 9 (declared_of tree.classes) (TooManyFields (declared_of tree.classes)) f nine in (inr (inr (inr (inr (inr (inr (inr (inr (record { rule_is = is.rule_is; holds = inr is.holds }))))))))))
]

pub all_clear : (tree : FileTree) → Clear (ClassesFault tree.classes) → Clear (RowsFault (class_names tree.classes) (declared_of tree.classes) (declared_of tree.classes)) → Clear (Breaks tree)
all_clear tree a b =
    let all : List Declaration = declared_of tree.classes in
    let eight : (f : Fault) → OfRule 8 (rule_8 tree) f → ⊥ = λ f h. elim h.holds [
      | inl name ↦ a.none f (inl (inr (inl (record { rule_is = h.rule_is; holds = name }))))
      | inr maker ↦ a.none f (inr (inl (record { number = maker.number; element = maker.element; found = maker.found; holds = inr (record { number = maker.holds.number; element = maker.holds.element; found = maker.holds.found; holds = record { rule_is = h.rule_is; holds = maker.holds.holds } }) })))
    ] in
    let nine : (f : Fault) → OfRule 9 (rule_9 tree) f → ⊥ = λ f h. elim h.holds [
      | inl beyond ↦ a.none f (inl (inr (inr (record { rule_is = h.rule_is; holds = beyond }))))
      | inr many ↦ b.none f (inr (into 9 all (TooManyFields all) f (record { rule_is = h.rule_is; holds = many })))
    ] in
    let four : (f : Fault) → OfRule 4 (rule_4 tree) f → ⊥ = λ f h. elim h.holds [
      | inl again ↦ a.none f (inr (inr (inr (inl (into_twice 4 all (λ d. d.fields) (λ number d. FieldAgain d.fields) f (record { rule_is = h.rule_is; holds = again }))))))
      | inr hidden ↦ b.none f (inl (inl (into_twice 4 all (λ d. d.fields) (λ number d place. FieldHidden all number) f (record { rule_is = h.rule_is; holds = hidden }))))
    ] in
    let five : (f : Fault) → OfRule 5 (rule_5 tree) f → ⊥ = λ f h. elim h.holds [
      | inl methods ↦ a.none f (inr (inr (inr (inr (into_twice 5 all (λ d. d.methods) (λ number d. CalledAlike d.methods) f (record { rule_is = h.rule_is; holds = methods }))))))
      | inr makers ↦ b.none f (inl (inr (inl (into_twice 5 all (λ d. d.makers) (λ number d. SameArity d.makers) f (record { rule_is = h.rule_is; holds = makers })))))
    ] in
    let two : (f : Fault) → OfRule 2 (rule_2 tree) f → ⊥ = λ f h.
    a.none f (inr (inl (record { number = h.holds.number; element = h.holds.element; found = h.holds.found; holds = inl (record { rule_is = h.rule_is; holds = h.holds.holds }) }))) in
    let three : (f : Fault) → OfRule 3 (rule_3 tree) f → ⊥ = λ f h. a.none f (inr (inr (inl (into 3 all (OwnAncestor all) f h)))) in
    let six : (f : Fault) → OfRule 6 (rule_6 tree) f → ⊥ = λ f h. b.none f (inl (inr (inr (inl (into_twice 6 all (λ d. d.methods) (λ number d place. OverridesWrongly (class_names tree.classes) all number) f h))))) in
    record {
      none = λ f h. elim h [
        | inl x1 ↦ a.none f (inl (inl x1))
        | inr m2 ↦ elim m2 [
          | inl x2 ↦ two f x2
          | inr m3 ↦ elim m3 [
            | inl x3 ↦ three f x3
            | inr m4 ↦ elim m4 [
              | inl x4 ↦ four f x4
              | inr m5 ↦ elim m5 [
                | inl x5 ↦ five f x5
                | inr m6 ↦ elim m6 [
                  | inl x6 ↦ six f x6
                  | inr m7 ↦ elim m7 [
                    | inl x7 ↦ b.none f (inl (inr (inr (inr x7))))
                    | inr m8 ↦ elim m8 [
                      | inl x8 ↦ eight f x8
                      | inr x9 ↦ nine f x9
                    ]
                  ]
                ]
              ]
            ]
          ]
        ]
      ];
    }

-- ---- the table

pub table_first : (tree : FileTree) (classes : List ClassTree) (e : CheckError) → classes ≡ tree.classes → Blames (ClassesFault classes) e → Blames (Breaks tree) e
table_first tree classes e is h = weaker (ClassesFault tree.classes) (Breaks tree) e (classes_break tree) (subst (λ cs. Blames (ClassesFault cs) e) is h)

pub table_then : (tree : FileTree) (classes : List ClassTree) (names : List Name) (all some : List Declaration) (e : CheckError) → classes ≡ tree.classes → names ≡ class_names classes → all ≡ declared_of classes → some ≡ all → Blames (RowsFault names all some) e → Blames (Breaks tree) e
table_then tree classes names all some e is n a s h =
    let ns : names ≡ class_names tree.classes = n ∙ ap class_names is in
    let ds : all ≡ declared_of tree.classes = a ∙ ap declared_of is in
    let one : Blames (RowsFault names all all) e = subst (λ xs. Blames (RowsFault names all xs) e) s h in
    let two : Blames (RowsFault (class_names tree.classes) all all) e = subst (λ xs. Blames (RowsFault xs all all) e) ns one in
    let three : Blames (RowsFault (class_names tree.classes) (declared_of tree.classes) (declared_of tree.classes)) e = subst (λ xs. Blames (RowsFault (class_names tree.classes) xs xs) e) ds two in
    weaker (RowsFault (class_names tree.classes) (declared_of tree.classes) (declared_of tree.classes)) (Breaks tree) e (rows_break tree) three

pub table_clear : (tree : FileTree) (classes : List ClassTree) (names : List Name) (all some : List Declaration) → classes ≡ tree.classes → names ≡ class_names classes → all ≡ declared_of classes → some ≡ all → Clear (ClassesFault classes) → Clear (RowsFault names all some) → Clear (Breaks tree)
table_clear tree classes names all some is n a s first h =
    let ns : names ≡ class_names tree.classes = n ∙ ap class_names is in
    let ds : all ≡ declared_of tree.classes = a ∙ ap declared_of is in
    let one : Clear (RowsFault names all all) = subst (λ xs. Clear (RowsFault names all xs)) s h in
    let two : Clear (RowsFault (class_names tree.classes) all all) = subst (λ xs. Clear (RowsFault xs all all)) ns one in
    let three : Clear (RowsFault (class_names tree.classes) (declared_of tree.classes) (declared_of tree.classes)) = subst (λ xs. Clear (RowsFault (class_names tree.classes) xs xs)) ds two in
    all_clear tree (subst (λ cs. Clear (ClassesFault cs)) is first) three

pub table_is : (tree : FileTree) (classes : List ClassTree) (names : List Name) (all some : List Declaration) (rows : List ClassRow) → classes ≡ tree.classes → names ≡ class_names classes → all ≡ declared_of classes → some ≡ all → rows ≡ rows_from all 0 some → record { classes = rows; names = names } ≡ table_of tree
table_is tree classes names all some rows is n a s r =
    let ns : names ≡ class_names tree.classes = n ∙ ap class_names is in
    let ds : all ≡ declared_of tree.classes = a ∙ ap declared_of is in
    let one : rows ≡ rows_from all 0 all = r ∙ ap (rows_from all 0) s in
    let two : rows ≡ rows_from (declared_of tree.classes) 0 (declared_of tree.classes) = one ∙ ap (λ ds'. rows_from ds' 0 ds') ds in
    rw (ns, two) refl

pub table_keeps : (classes : List ClassTree) (names : List Name) (all some : List Declaration) (rows : List ClassRow) → names ≡ class_names classes → all ≡ declared_of classes → some ≡ all → length classes ≤ 1000 → AllEnd (parents_of (declared_of classes)) → Clear (RowsFault names all some) → rows ≡ rows_from all 0 some → IsTable (record { classes = rows; names = names })
table_keeps classes names all some rows n a s few ends clear r =
    let ds : some ≡ declared_of classes = s ∙ a in
    let one : Clear (RowsFault names (declared_of classes) some) = subst (λ xs. Clear (RowsFault names xs some)) a clear in
    let two : Clear (RowsFault names (declared_of classes) (declared_of classes)) = subst (λ xs. Clear (RowsFault names (declared_of classes) xs)) ds one in
    let counts : Clear (InSome (declared_of classes) (λ number d. OfRule 9 (TooManyFields (declared_of classes) number d))) = record { none = λ f h. two.none f (inr h) } in
    let rows_are : rows ≡ rows_from (declared_of classes) 0 (declared_of classes) = r ∙ ap (λ xs. rows_from xs 0 some) a ∙ ap (rows_from (declared_of classes) 0) ds in
    rw (rows_are, n) (table_facts classes few ends counts)

pub ruleset table_found = (table_first, table_then, table_clear, table_is, names_fit)
