-- What the small values of the code show.
use Rattle.vx_links.specs.Shown.{link_shown}
use Rattle.vx_state.specs.declared.tables.checks.Named.{Named}
use Rattle.vx_state.specs.declared.tables.checks.Named.TheVariants as named
use Rattle.vx_state.specs.declared.tables.lines.Bar.{Bar}
use Rattle.vx_state.specs.declared.tables.lines.Bar.TheVariants as bar
use Rattle.vx_state.specs.declared.tables.lines.Admission.{Admission}
use Rattle.vx_state.specs.declared.tables.lines.Admission.TheVariants as seen
use Rattle.vx_state.specs.declared.tables.lines.Request.{Request}
use Rattle.vx_state.specs.declared.tables.docmd.Command.{Command}
use Rattle.vx_state.specs.declared.tables.docmd.Command.TheVariants as command
use Rattle.vx_rules.specs.Checks as checks
use Rattle.vx_rules.specs.Lines as lines
use Rattle.vx_rules.specs.Docmd as docmd

-- the link that a call is about
abbrev pub named_shown : Named → checks.NamedLink
named_shown named.Nothing = checks.NoLink
named_shown named.Dead = checks.DeadLink
named_shown (named.On row) = checks.OnLink (link_shown row)

-- what keeps a call off its target
abbrev pub bar_shown : Bar → lines.Bar
bar_shown (bar.HeldBy link) = lines.HeldBy link
bar_shown (bar.Behind conn) = lines.Behind conn

-- what the first lines say
abbrev pub lines_shown : Admission → lines.Admission
lines_shown (seen.Refused error) = lines.Refused error
lines_shown (seen.Waiting b) = lines.Waiting (bar_shown b)
lines_shown seen.Passed = lines.Passed

-- what a call is under locks with
abbrev pub request_shown : Request → lines.LockRequest
request_shown r = record { link = r.link; target = r.target }

-- a command of device_docmd
abbrev pub command_shown : Command → docmd.Command
command_shown command.SendCommand = docmd.SendCommand
command_shown command.BusStatus = docmd.BusStatus
command_shown command.AtnControl = docmd.AtnControl
command_shown command.RenControl = docmd.RenControl
command_shown command.PassControl = docmd.PassControl
command_shown command.BusAddress = docmd.BusAddress
command_shown command.IfcControl = docmd.IfcControl
