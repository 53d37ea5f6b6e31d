-- A source has one program at most.
use Rattle.std.proofs.Common.{◌≡◌, ℕ, List, sym, ◌∙◌, ap, subst}
use Rattle.core_tree.specs.declared.program.Program.{Program}
use Rattle.java_tokens.specs.declared.token.Token.{Token}
use Rattle.java_tokens.specs.Tokens.{AreTokens}
use Rattle.java_tokens.proofs.OneReading.{one_list}
use Rattle.java_syntax.specs.declared.class.FileTree.{FileTree}
use Rattle.java_syntax.specs.Spells.{Spells}
use Rattle.class_table.specs.Table.{table_of}
use Rattle.java_parse.specs.Answer.{IsOnlyTree}
use Rattle.java_members.specs.Files as types
use Rattle.java_source.specs.Accepted.{Accepted, IsOnlyProgram}

-- the bytes have these tokens, only this tree spells them, and this is its program
pub only_program : (bytes : List ℕ) (tokens : List Token) (tree : FileTree) (program : Program) → AreTokens bytes tokens → IsOnlyTree tree tokens
    → program ≡ types.program_of (table_of tree) tree → IsOnlyProgram bytes program
only_program bytes tokens tree program read only resolved = λ other accepted.
    let same : accepted.tokens ≡ tokens = one_list bytes accepted.tokens tokens accepted.read read in
    let tree_is : accepted.program_is.tree ≡ tree =
    only accepted.program_is.tree (subst (Spells accepted.program_is.tree) same accepted.program_is.spelled) in
    accepted.program_is.resolved ∙ ap (λ t. types.program_of (table_of t) t) tree_is ∙ sym resolved
