-- What the parts of the check answer.
use Rattle.std.specs.Prelude.{ℕ, Bool, true, false, List, [], ◌++◌}
use Rattle.token_reading.specs.declared.fault.Fault.{Fault}
use Rattle.java_syntax.specs.declared.class.Member.{Member}
use Rattle.java_syntax.specs.declared.class.Member.TheVariants as member
use Rattle.java_exprs.specs.declared.environment.Environment.{Environment}
use Rattle.java_members.specs.Constants.{Reading}
use Rattle.java_members.specs.Declarations.{declaration_faults}
use Rattle.java_members.specs.Files.{member_faults}

-- what a member of class c breaks in its declaration, and in its initialiser or body
abbrev pub faults_in : Environment → ℕ → Member → List Fault
faults_in env c m = declaration_faults env c m ++ member_faults env c m

-- the constants that were read so far, none of which breaks a rule
abbrev pub read_in : Environment → Reading
read_in env = record { constants = env.constants; faults = [] }

abbrev pub is_constructor : Member → Bool
is_constructor (member.Maker m) = true
is_constructor _ = false
