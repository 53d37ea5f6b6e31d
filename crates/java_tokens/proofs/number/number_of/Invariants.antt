use Rattle.std.proofs.Common.{◌≡◌, ◌<◌, ◌^◌, true, take}
use Rattle.std.specs.List.{list_all}
use Rattle.java_tokens.specs.Characters.{is_digit}
use Rattle.java_tokens.specs.Spelling.{number_of}
use Rattle.java_tokens.proofs.number.number_of.Given as goal

abbrev pub invariant-loop-digit : goal.invariant-loop-digit
invariant-loop-digit l = record {
  value : l.number ≡ number_of (take l.digit-index l.text);
  digits : list_all is_digit (take l.digit-index l.text) ≡ true;
  small : l.number < 10 ^ l.digit-index;
}
