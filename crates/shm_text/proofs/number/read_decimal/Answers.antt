use Rattle.shm_text.proofs.Names.{refl}
use Rattle.shm_text.proofs.number.read_decimal.Goals as goal

pub returns-in-Some-Fits : goal.returns-in-Some-Fits
returns-in-Some-Fits c = rw (← c.digits.ensures, c.in-Some-Fits.is, c.in-Some-Fits.field-0-is) refl
