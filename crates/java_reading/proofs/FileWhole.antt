-- What reading says of files.
use Rattle.std.proofs.Common.{◌≡◌, ℕ, ◌+◌, ◌≤◌, max, List, [], ◌∷◌, length, Ok, Err, refl, sym, ◌∙◌, ap, subst, arith}
use Rattle.java_tokens.specs.declared.token.Token.{Token}
use Rattle.java_syntax.specs.declared.class.ClassTree.{ClassTree}
use Rattle.java_syntax.specs.declared.class.FileTree.{FileTree}
use Rattle.token_reading.specs.Lexeme.{Lexeme, numbered}
use Rattle.java_syntax.specs.Spells.{FileWithin}
use Rattle.token_reading.specs.Outcome.{no_tree, too_high, Outcome}
use Rattle.java_reading.specs.FileLaws.{OneFile, FindsFiles, GivesFiles, RefusesFiles, RefusesHighFiles, FileHeightIsLeast}
use Rattle.java_reading.specs.ReadClass.{file}
use Rattle.java_reading.proofs.ArgsFacts.{args_facts}
use Rattle.java_reading.proofs.FileFound.{file_found}
use Rattle.java_reading.proofs.FileGrowing.{file_at_most, file_fit}
use Rattle.java_reading.proofs.FileSound.{file_sound}
use Rattle.token_reading.proofs.Steps.{Or, found, higher, Gives, gives, gives_none, gives_high}
use Rattle.java_reading.proofs.Whole.{expr_facts}

length_numbered : (n : ℕ) (tokens : List Token) → length (numbered n tokens) ≡ length tokens
length_numbered n [] = refl
length_numbered n (t ∷ tokens) = omega (arith, length_numbered (n + 1) tokens)

-- a file of a height that the budget allows
allowed : {good : Outcome (List ClassTree)} (n b : ℕ) (xs : List Lexeme) → n ≤ b → Or n b (file b xs) good → file b xs ≡ good
allowed n b xs up (found r) = r
allowed n b xs up (higher h r) = absurd (omega arith)

read : (n b : ℕ) (all : List ClassTree) (xs : List Lexeme) → n ≤ b → FileWithin n all xs → file b xs ≡ Ok (all, [])
read n b all xs up w = allowed n b xs up (file_found expr_facts args_facts n b all xs w)

abbrev classes_of : Outcome (List ClassTree) → List ClassTree
classes_of (Ok p) = p.0
classes_of (Err f) = []

one_tree : (s t : FileTree) → s.classes ≡ t.classes → s.places ≡ t.places → s ≡ t
one_tree s t classes places = ap (λ all. record { classes = all; places = s.places }) classes ∙ ap (λ all. record { classes = t.classes; places = all }) places

pub one_file : OneFile
one_file s t tokens v w =
    let xs = numbered 0 tokens in let b = max v.0 w.0 in
    one_tree s t
    (ap classes_of (sym (read v.0 b s.classes xs (omega arith) v.1.0) ∙ read w.0 b t.classes xs (omega arith) w.1.0))
    (v.1.1 ∙ sym w.1.1)

pub finds_files : FindsFiles
finds_files n t tokens w = read n n t.classes (numbered 0 tokens) (omega arith) w.0

given : (n : ℕ) (xs : List Lexeme) (o : Outcome (List ClassTree)) → Gives (λ all rest. FileWithin n all xs × (rest ≡ [])) (n ≤ length xs) o
    → (all : List ClassTree) (rest : List Lexeme) → o ≡ Ok (all, rest) → FileWithin n all xs × (rest ≡ [])
given n xs o (gives some ys w) all rest is =
    let classes : some ≡ all = ap classes_of is in let left : ys ≡ rest = ap rest_of is in
    (subst (λ (l : List ClassTree). FileWithin n l xs) classes w.0, sym left ∙ w.1) where
      rest_of : Outcome (List ClassTree) → List Lexeme
      rest_of (Ok p) = p.1
      rest_of (Err f) = []
given n xs o gives_none all rest is = absurd (cc)
given n xs o (gives_high h) all rest is = absurd (cc)

pub gives_files : GivesFiles
gives_files n t tokens rest is places =
    let xs = numbered 0 tokens in let found = given n xs (file n xs) (file_sound expr_facts args_facts n xs) t.classes rest is in
    ((found.0, places), found.1)

none_by : (n b : ℕ) (xs : List Lexeme) (all : List ClassTree) → file b xs ≡ Err no_tree → Or n b (file b xs) (Ok (all, [])) → ⊥
none_by n b xs all is (found r) = cc
none_by n b xs all is (higher h r) = cc

pub refuses_files : RefusesFiles
refuses_files n t tokens is s =
    let xs = numbered 0 tokens in none_by s.0 n xs t.classes is (file_found expr_facts args_facts s.0 n t.classes xs s.1.0)

long_enough : (n : ℕ) (xs : List Lexeme) (o : Outcome (List ClassTree)) → Gives (λ all rest. FileWithin n all xs × (rest ≡ [])) (n ≤ length xs) o
    → o ≡ Err too_high → n ≤ length xs
long_enough n xs o (gives s ys w) is = absurd (cc)
long_enough n xs o gives_none is = absurd (cc)
long_enough n xs o (gives_high h) is = h

pub refuses_high_files : RefusesHighFiles
refuses_high_files n tokens is =
    let xs = numbered 0 tokens in (
      λ t w. let same : Err too_high ≡ Ok (t.classes, []) = sym is ∙ read n n t.classes xs (omega arith) w.0 in cc,
      omega (arith, length_numbered 0 tokens, long_enough n xs (file n xs) (file_sound expr_facts args_facts n xs) is),
    )

pub file_height_is_least : FileHeightIsLeast
file_height_is_least n t tokens w =
    (file_at_most n t (numbered 0 tokens) w.0, λ m low. (file_fit n m t (numbered 0 tokens) low w.0, w.1))
