use Rattle.std.proofs.Common.{take}
use Rattle.vx_xdr.specs.Writing.{WritesFirst}
use Rattle.vx_codec.proofs.Texts.{texts}
use Rattle.vx_codec.proofs.fields.put_all.Given as goal

abbrev pub invariant-loop-field : goal.invariant-loop-field
invariant-loop-field l = WritesFirst (texts (take l.field-index l.fields)) l.initial.out l.w l.out
