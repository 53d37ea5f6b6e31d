use Rattle.std.proofs.Common.{◌++◌, ◌∷◌, [], is_ok, length, ap, ◌∙◌, subst}
use Rattle.std.specs.List.{between}
use Rattle.std.proofs.ResultArms.{chosen}
use Rattle.java_tokens.specs.declared.lexeme.Lexeme.TheVariants as lexeme
use Rattle.java_tokens.specs.Reading.{IsScanned}
use Rattle.java_tokens.proofs.Readings.{went_on, passed_over, token-here}
use Rattle.java_tokens.proofs.Stopping.{stopped}
use Rattle.java_tokens.proofs.reader.read.Goals as goal

pub returns-in-Malformed-clause-err : goal.returns-in-Malformed-clause-err
returns-in-Malformed-clause-err c =
    let xs = c.args.characters.now in
    let at = c.loop-at.at in
    let n = c.in_ok-scanned.scanned.len in
    let found = subst (λ what. IsScanned (between at (length xs) xs) what n) c.in-Malformed.is c.in_ok-scanned.ensures in
    stopped xs c.loop-at.tokens.items at n c.in-Malformed.flaw c.args.whole c.fault_of.result c.loop-at.invariant.read found c.fault_of.ensures

-- white space and comments are no tokens
pub loop-at-preserved-in-White : goal.loop-at-preserved-in-White
loop-at-preserved-in-White c =
    record { read = passed_over c.args.characters.now c.loop-at.tokens.items c.loop-at.at c.in_ok-scanned.scanned.len c.in_ok-scanned.scanned.lexeme c.loop-at.invariant.read c.in_ok-scanned.ensures c.in-White.is; here = c.moved-behind.ensures }

pub loop-at-preserved : goal.loop-at-preserved
loop-at-preserved c =
    let xs = c.args.characters.now in
    let at = c.loop-at.at in
    let n = c.in_ok-scanned.scanned.len in
    let kind = c.in-Token.kind in
    let found = subst (λ what. IsScanned (between at (length xs) xs) what n) c.in-Token.is c.in_ok-scanned.ensures in
    let token = token-here xs at n c.loop-at.place c.moved-behind.result kind c.token.result c.loop-at.invariant.here c.moved-behind.ensures (c.token.ensures.kind ∙ c.in-Token.kind-is) c.token.ensures.start c.token.ensures.end c.token.ensures.line c.token.ensures.column in
    let pushed = chosen _ _ _ _ c.push.ensures.items (ap is_ok c.in_ok-push-in-Token.was) in
    record {
      read = went_on xs c.loop-at.tokens.items _ at n (lexeme.Token kind) c.loop-at.invariant.read found tt (pushed ∙ ap (λ t. c.loop-at.tokens.items ++ t ∷ []) token);
      here = c.moved-behind.ensures;
    }
