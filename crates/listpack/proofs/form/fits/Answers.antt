-- `listpack::form::fits` meets its contract. Assumes nothing.
use mathlib.Core.Path.{sym}
use native.Mathlib.Omega.{arith}
use Rattle.listpack.proofs.Width.{fits_low, fits_high, fits_not}
use Rattle.listpack.proofs.form.fits.Goals as goal

pub returns-then-p-half : goal.returns-then-p-half
returns-then-p-half c = sym (fits_low _ _ (omega arith))

pub returns-then-half-p : goal.returns-then-half-p
returns-then-half-p c = sym (fits_high _ _ (omega arith))

pub returns : goal.returns
returns c = sym (fits_not _ _ (omega arith) (omega arith))
