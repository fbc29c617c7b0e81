-- `listpack::form::wide_form` meets its contract. Assumes nothing.
use mathlib.Core.Path.{refl}
use native.Mathlib.Omega.{arith}
use Rattle.listpack.proofs.Cases.{body_16, body_24, body_32, body_64}
use Rattle.listpack.proofs.Width.{fits_all}
use Rattle.listpack.proofs.form.wide_form.Goals as goal

pub returns-then-fits : goal.returns-then-fits
returns-then-fits c = record { byte = omega arith; some_bytes = omega arith; most = omega arith; range = refl; fit = cc; body = body_16 _ (omega arith) (cc) (cc) }

pub returns-then-fits-2 : goal.returns-then-fits-2
returns-then-fits-2 c = record { byte = omega arith; some_bytes = omega arith; most = omega arith; range = refl; fit = cc; body = body_24 _ (omega arith) (cc) (cc) (cc) }

pub returns-then-fits-3 : goal.returns-then-fits-3
returns-then-fits-3 c = record { byte = omega arith; some_bytes = omega arith; most = omega arith; range = refl; fit = cc; body = body_32 _ (omega arith) (cc) (cc) (cc) (cc) }

pub returns : goal.returns
returns c = record { byte = omega arith; some_bytes = omega arith; most = omega arith; range = refl; fit = fits_all _; body = body_64 _ (omega arith) (cc) (cc) (cc) (cc) }
