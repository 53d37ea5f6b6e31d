-- The methods and constructors that were resolved so far, with those of more members after them.
use Rattle.std.specs.Prelude.{ℕ, List, ◌++◌, flat_map}
use Rattle.java_syntax.specs.declared.class.Member.{Member}
use Rattle.java_syntax.specs.declared.class.ClassTree.{ClassTree}
use Rattle.java_exprs.specs.declared.environment.Environment.{Environment}
use Rattle.java_members.specs.declared.members.Bodies.{Bodies}
use Rattle.java_members.specs.Files.{of_members, own_method, own_maker}

-- of a member of class c
abbrev pub with_member : Environment → ℕ → Member → Bodies → Bodies
with_member env c m bodies = record { methods = bodies.methods ++ own_method env c m; makers = bodies.makers ++ own_maker env c m }

-- of some members of class c
abbrev pub with_members : Environment → ℕ → List Member → Bodies → Bodies
with_members env c ms bodies =
    record { methods = bodies.methods ++ flat_map (own_method env c) ms; makers = bodies.makers ++ flat_map (own_maker env c) ms }

-- of the members of the classes from number c on
abbrev pub with_classes : Environment → ℕ → List ClassTree → Bodies → Bodies
with_classes env c ks bodies =
    record { methods = bodies.methods ++ of_members (own_method env) c ks; makers = bodies.makers ++ of_members (own_maker env) c ks }
