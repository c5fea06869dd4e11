-- What is told of a channel.
use Rattle.vx_srq.specs.declared.slots.ChannelRow.{ChannelRow}
use Rattle.vx_srq.specs.declared.srq.Channel.{Channel}
use Rattle.vx_rules.specs.SrqState as srq_state

-- a channel's number, program and version
abbrev pub channel_told : srq_state.Channel → Channel
channel_told c = record { chan = c.number; prog = c.program; vers = c.version }

-- the same of a row
abbrev pub told_of : ChannelRow → Channel
told_of c = record { chan = c.chan; prog = c.prog; vers = c.vers }
