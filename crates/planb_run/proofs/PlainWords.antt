-- Words and their texts.
use Rattle.std.proofs.Common.{◌≡◌, ◌∙◌, ℕ, Bool, true, false, not, ◌&&◌, List, [], ◌∷◌, String, Some, None, string_bytes, chars, map, ap, refl, sym}
use Rattle.std.specs.List.{list_all}
use Rattle.std.specs.declared.alloc.Global.{Global}
use Rattle.interpreter.specs.Machine.{text_of}
use Rattle.planb_run.specs.Command.{begins_with_dash, command_with}
use Rattle.planb_run.specs.Words.{texts}

-- a test of all texts is one of all words
pub all_texts : (test : List ℕ → Bool) (words : List (String Global))
    → list_all test (texts words) ≡ list_all (λ word. test (string_bytes word)) words
all_texts test [] = refl
all_texts test (word ∷ words) = ap (λ b. test (string_bytes word) && b) (all_texts test words)

-- none of the words begins with `-`
abbrev are_plain : List (String Global) → Bool
are_plain words = list_all (λ word. not (begins_with_dash (string_bytes word))) words

-- the command of words of which none begins with `-`
pub plain_command : (steps : ℕ) (words : List (String Global)) (file : String Global) (arguments : List (String Global))
    → words ≡ file ∷ arguments → are_plain words ≡ true
    → command_with steps (texts words) ≡ Some (record { file = string_bytes file; arguments = texts arguments; steps = steps })
plain_command steps words file arguments is plain =
    let all : list_all (λ word. not (begins_with_dash word)) (texts (file ∷ arguments)) ≡ true =
    all_texts (λ word. not (begins_with_dash word)) (file ∷ arguments) ∙ ap are_plain (sym is) ∙ plain in
    ap (λ all. command_with steps (texts all)) is ∙ rw all refl

-- there is none where a word does
pub dashed_command : (steps : ℕ) (words : List (String Global)) → are_plain words ≡ false
    → command_with steps (texts words) ≡ None
dashed_command steps [] dashed = refl
dashed_command steps (file ∷ arguments) dashed =
    let all : list_all (λ word. not (begins_with_dash word)) (texts (file ∷ arguments)) ≡ false =
    all_texts (λ word. not (begins_with_dash word)) (file ∷ arguments) ∙ dashed in rw all refl

-- the characters of the texts of words
pub texts_of : (words : List (String Global)) → map text_of words ≡ map chars (texts words)
texts_of [] = refl
texts_of (word ∷ words) = ap (λ rest. text_of word ∷ rest) (texts_of words)
