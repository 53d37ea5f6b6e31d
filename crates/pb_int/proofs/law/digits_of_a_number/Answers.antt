use Rattle.pb_int.proofs.TwosComplement.{digits_kept, number_kept}
use Rattle.pb_int.proofs.law.digits_of_a_number.Goals as goal

pub returns-clause-digits : goal.returns-clause-digits
returns-clause-digits c = digits_kept

pub returns-clause-number : goal.returns-clause-number
returns-clause-number c = number_kept
