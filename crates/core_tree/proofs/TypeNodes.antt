-- What is asked of two types, by the form of the first.
use Rattle.std.proofs.Common.{◌≡◌, ◌∙◌, ℕ, Bool, List, sym, ap}
use Rattle.core_tree.specs.declared.ty.Ty.{Ty}
use Rattle.core_tree.specs.declared.ty.Ty.TheVariants as ty
use Rattle.core_tree.specs.declared.ty.Ty.TheViews.{roll-Ty}
use Rattle.core_tree.specs.declared.ty.Ty.TheOpen.{Ty-F}
use Rattle.core_tree.specs.declared.ty.Ty.TheFolds.{fold-roll-Ty, map-Ty}
use Rattle.core_tree.specs.declared.program.Class.{Class}
use Rattle.core_tree.specs.Types.{is_subclass, assignable_node, is_assignable_by, is_assignable, same_type_node, is_same_type, value_type_node, is_value_type}

-- ---- what can be assigned to what

pub opens_by : (below : ℕ → ℕ → Bool) (x : Ty-F Ty)
    → is_assignable_by below (roll-Ty x) ≡ assignable_node below (map-Ty Ty (Ty → Bool) (is_assignable_by below) x)
unfolding is_assignable_by
opens_by below x = fold-roll-Ty (Ty → Bool) (assignable_node below) x

pub assignable-Int : (below : ℕ → ℕ → Bool) → is_assignable_by below ty.Int ≡ assignable_node below Ty-F.Int
assignable-Int below = ap (is_assignable_by below) (sym ty.rolls-Int) ∙ opens_by below Ty-F.Int

pub assignable-Bool : (below : ℕ → ℕ → Bool) → is_assignable_by below ty.Bool ≡ assignable_node below Ty-F.Bool
assignable-Bool below = ap (is_assignable_by below) (sym ty.rolls-Bool) ∙ opens_by below Ty-F.Bool

pub assignable-Text : (below : ℕ → ℕ → Bool) → is_assignable_by below ty.Text ≡ assignable_node below Ty-F.Text
assignable-Text below = ap (is_assignable_by below) (sym ty.rolls-Text) ∙ opens_by below Ty-F.Text

pub assignable-Class : (below : ℕ → ℕ → Bool) (c : ℕ) → is_assignable_by below (ty.Class c) ≡ assignable_node below (Ty-F.Class c)
assignable-Class below c = ap (is_assignable_by below) (sym (ty.rolls-Class c)) ∙ opens_by below (Ty-F.Class c)

pub assignable-Array : (below : ℕ → ℕ → Bool) (elements : Ty) → is_assignable_by below (ty.Array elements) ≡ assignable_node below (Ty-F.Array (is_assignable_by below elements))
assignable-Array below elements = ap (is_assignable_by below) (sym (ty.rolls-Array elements)) ∙ opens_by below (Ty-F.Array elements)

pub assignable-Null : (below : ℕ → ℕ → Bool) → is_assignable_by below ty.Null ≡ assignable_node below Ty-F.Null
assignable-Null below = ap (is_assignable_by below) (sym ty.rolls-Null) ∙ opens_by below Ty-F.Null

pub assignable-Void : (below : ℕ → ℕ → Bool) → is_assignable_by below ty.Void ≡ assignable_node below Ty-F.Void
assignable-Void below = ap (is_assignable_by below) (sym ty.rolls-Void) ∙ opens_by below Ty-F.Void

pub ruleset assignable = (assignable-Int, assignable-Bool, assignable-Text, assignable-Class, assignable-Array, assignable-Null, assignable-Void)

-- ---- the same in a program

pub assignable_opens : (classes : List Class) (x : Ty-F Ty) (b : Ty)
    → is_assignable classes (roll-Ty x) b ≡ assignable_node (is_subclass classes) (map-Ty Ty (Ty → Bool) (is_assignable classes) x) b
unfolding is_assignable
assignable_opens classes x b = ap (λ f. f b) (opens_by (is_subclass classes) x)

pub is_assignable-Int : (classes : List Class) → is_assignable classes ty.Int ≡ assignable_node (is_subclass classes) Ty-F.Int
unfolding is_assignable
is_assignable-Int classes = assignable-Int (is_subclass classes)

pub is_assignable-Bool : (classes : List Class) → is_assignable classes ty.Bool ≡ assignable_node (is_subclass classes) Ty-F.Bool
unfolding is_assignable
is_assignable-Bool classes = assignable-Bool (is_subclass classes)

pub is_assignable-Text : (classes : List Class) → is_assignable classes ty.Text ≡ assignable_node (is_subclass classes) Ty-F.Text
unfolding is_assignable
is_assignable-Text classes = assignable-Text (is_subclass classes)

pub is_assignable-Class : (classes : List Class) (c : ℕ) → is_assignable classes (ty.Class c) ≡ assignable_node (is_subclass classes) (Ty-F.Class c)
unfolding is_assignable
is_assignable-Class classes c = assignable-Class (is_subclass classes) c

pub is_assignable-Array : (classes : List Class) (elements : Ty) → is_assignable classes (ty.Array elements) ≡ assignable_node (is_subclass classes) (Ty-F.Array (is_assignable classes elements))
unfolding is_assignable
is_assignable-Array classes elements = assignable-Array (is_subclass classes) elements

pub is_assignable-Null : (classes : List Class) → is_assignable classes ty.Null ≡ assignable_node (is_subclass classes) Ty-F.Null
unfolding is_assignable
is_assignable-Null classes = assignable-Null (is_subclass classes)

pub is_assignable-Void : (classes : List Class) → is_assignable classes ty.Void ≡ assignable_node (is_subclass classes) Ty-F.Void
unfolding is_assignable
is_assignable-Void classes = assignable-Void (is_subclass classes)

-- ---- equal types

pub same_opens : (x : Ty-F Ty) → is_same_type (roll-Ty x) ≡ same_type_node (map-Ty Ty (Ty → Bool) is_same_type x)
unfolding is_same_type
same_opens x = fold-roll-Ty (Ty → Bool) same_type_node x

pub is_same_type-Int : is_same_type ty.Int ≡ same_type_node Ty-F.Int
is_same_type-Int = ap is_same_type (sym ty.rolls-Int) ∙ same_opens Ty-F.Int

pub is_same_type-Bool : is_same_type ty.Bool ≡ same_type_node Ty-F.Bool
is_same_type-Bool = ap is_same_type (sym ty.rolls-Bool) ∙ same_opens Ty-F.Bool

pub is_same_type-Text : is_same_type ty.Text ≡ same_type_node Ty-F.Text
is_same_type-Text = ap is_same_type (sym ty.rolls-Text) ∙ same_opens Ty-F.Text

pub is_same_type-Class : (c : ℕ) → is_same_type (ty.Class c) ≡ same_type_node (Ty-F.Class c)
is_same_type-Class c = ap is_same_type (sym (ty.rolls-Class c)) ∙ same_opens (Ty-F.Class c)

pub is_same_type-Array : (elements : Ty) → is_same_type (ty.Array elements) ≡ same_type_node (Ty-F.Array (is_same_type elements))
is_same_type-Array elements = ap is_same_type (sym (ty.rolls-Array elements)) ∙ same_opens (Ty-F.Array elements)

pub is_same_type-Null : is_same_type ty.Null ≡ same_type_node Ty-F.Null
is_same_type-Null = ap is_same_type (sym ty.rolls-Null) ∙ same_opens Ty-F.Null

pub is_same_type-Void : is_same_type ty.Void ≡ same_type_node Ty-F.Void
is_same_type-Void = ap is_same_type (sym ty.rolls-Void) ∙ same_opens Ty-F.Void

-- ---- types of variables

pub value_opens : (classes : ℕ) (x : Ty-F Ty)
    → is_value_type classes (roll-Ty x) ≡ value_type_node classes (map-Ty Ty Bool (is_value_type classes) x)
unfolding is_value_type
value_opens classes x = fold-roll-Ty Bool (value_type_node classes) x

pub is_value_type-Int : (classes : ℕ) → is_value_type classes ty.Int ≡ value_type_node classes Ty-F.Int
is_value_type-Int classes = ap (is_value_type classes) (sym ty.rolls-Int) ∙ value_opens classes Ty-F.Int

pub is_value_type-Bool : (classes : ℕ) → is_value_type classes ty.Bool ≡ value_type_node classes Ty-F.Bool
is_value_type-Bool classes = ap (is_value_type classes) (sym ty.rolls-Bool) ∙ value_opens classes Ty-F.Bool

pub is_value_type-Text : (classes : ℕ) → is_value_type classes ty.Text ≡ value_type_node classes Ty-F.Text
is_value_type-Text classes = ap (is_value_type classes) (sym ty.rolls-Text) ∙ value_opens classes Ty-F.Text

pub is_value_type-Class : (classes : ℕ) (c : ℕ) → is_value_type classes (ty.Class c) ≡ value_type_node classes (Ty-F.Class c)
is_value_type-Class classes c = ap (is_value_type classes) (sym (ty.rolls-Class c)) ∙ value_opens classes (Ty-F.Class c)

pub is_value_type-Array : (classes : ℕ) (elements : Ty) → is_value_type classes (ty.Array elements) ≡ value_type_node classes (Ty-F.Array (is_value_type classes elements))
is_value_type-Array classes elements = ap (is_value_type classes) (sym (ty.rolls-Array elements)) ∙ value_opens classes (Ty-F.Array elements)

pub is_value_type-Null : (classes : ℕ) → is_value_type classes ty.Null ≡ value_type_node classes Ty-F.Null
is_value_type-Null classes = ap (is_value_type classes) (sym ty.rolls-Null) ∙ value_opens classes Ty-F.Null

pub is_value_type-Void : (classes : ℕ) → is_value_type classes ty.Void ≡ value_type_node classes Ty-F.Void
is_value_type-Void classes = ap (is_value_type classes) (sym ty.rolls-Void) ∙ value_opens classes Ty-F.Void
