use Rattle.std.proofs.Common.{Some, sym, ap, w32}
use Rattle.std.proofs.lemmas.Int.{fits_signed_from_abs}
use Rattle.std.proofs.Math.Facts.{to_z_pos}
use Rattle.interpreter.proofs.Sums.{count_fits}
use Rattle.interpreter.proofs.running.Running.count.Goals as goal

pub overflow_cast-result : goal.overflow_cast-result
overflow_cast-result g c = fits_signed_from_abs w32 _ (count_fits _ _ _ _ (g.met.S.Store.sound c.args.self.now.store) (sym c.in_ok-elements_count.ensures))

pub returns : goal.returns
returns g c = rw (sym c.in_ok-elements_count.ensures) (ap Some (to_z_pos w32 (count_fits _ _ _ _ (g.met.S.Store.sound c.args.self.now.store) (sym c.in_ok-elements_count.ensures))))
