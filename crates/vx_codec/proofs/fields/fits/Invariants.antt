use Rattle.std.proofs.Common.{◌≡◌, ◌+◌, length, drop}
use Rattle.vx_codec.proofs.Texts.{texts}
use Rattle.vx_codec.proofs.fields.fits.Given as goal

abbrev pub invariant-loop-field : goal.invariant-loop-field
invariant-loop-field l = length (texts l.fields) + l.left ≡ l.room + length (texts (drop l.field-index l.fields))
