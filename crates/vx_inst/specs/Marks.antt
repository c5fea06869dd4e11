-- A byte to give as a bus sees it.
use Rattle.vx_488.specs.Heard.{Byte}
use Rattle.vx_inst.specs.declared.body.Marked.{Marked}

abbrev pub shown : Marked → Byte
shown m = record { value = m.byte; end = m.end }
