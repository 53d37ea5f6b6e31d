use Rattle.std.proofs.Common.{◌≡◌, refl, rules}
use Rattle.core_tree.specs.declared.ty.Ty.TheVariants as ty
use Rattle.java_denotes.specs.declared.denotation.Denotation.TheVariants as denotes
use Rattle.java_exprs.proofs.CleanLemmas.{minus_clean}
use Rattle.java_exprs.proofs.ValueLemmas.{minus_of_name}
use Rattle.java_exprs.proofs.unary.minus.Goals as goal

pub returns-in-Class : goal.returns-in-Class
returns-in-Class c = minus_of_name c.args.env.now c.args.scope.now c.args.at c.args.e c.fault.result c.in-Class.is c.fault.ensures

pub returns-in_ok-new-in-Value-Int : goal.returns-in_ok-new-in-Value-Int
returns-in_ok-new-in-Value-Int c =
    let is : c.args.e.denotes ≡ denotes.Value ty.Int = search rules in
    minus_clean c.args.env.now c.args.scope.now c.args.at c.args.e ty.Int c.in_ok-new-in-Value-Int.field-0 is refl c.in_ok-new-in-Value-Int.ensures
