-- To be believed.
-- What the words of a user ask.
use Rattle.std.specs.Prelude.{ℕ, Bool, false, ◌&&◌, ◌==◌, nat_lt, nat_le, not, if◌then◌else◌, List, [], ◌∷◌, ◌++◌, length, codes, Option, Some, None, option_and_then, option_map}
use Rattle.std.specs.List.{list_all}
use Rattle.std.specs.Str.{bytes_eq}
use Rattle.std.specs.Str.Parse.{digits_value}
use Rattle.vx_calls.specs.Target.{is_digit}
use Rattle.vx_calls.specs.declared.limits.TheConstants.{DEVICE_MAX}
use Rattle.vx_client.specs.declared.words.Command as declared
use Rattle.vx_client.specs.declared.words.Command.TheVariants as seen
use Rattle.vx_client.specs.declared.words.Ask as asks

-- what is asked of a device
pub data ClientCommand : Type 0 where
  -- write a text, and then read
  Query : (text : List ℕ) → ClientCommand
  -- write a text
  Write : (text : List ℕ) → ClientCommand
  Read : ClientCommand
  -- take the status byte
  Stb : ClientCommand
  Clear : ClientCommand
  Trigger : ClientCommand

-- what is asked, and of which device of the server at a host and port
pub record Ask : Type 0 where
  pub host : List ℕ
  pub port : ℕ
  pub device : List ℕ
  pub command : ClientCommand

-- decimal digits, at least one, of which the first isn't 0
abbrev pub is_positive : List ℕ → Bool
is_positive [] = false
is_positive (d ∷ ds) = not (d == 48) && list_all is_digit (d ∷ ds)

-- the port, 1 to 65,535, that decimal digits without a leading zero write
abbrev pub port_of : List ℕ → Option ℕ
port_of text = if is_positive text && nat_le (digits_value 10 text) 65535 then Some (digits_value 10 text) else None

-- the command of one word
abbrev pub bare_command : List ℕ → Option ClientCommand
bare_command word =
    if bytes_eq word (codes "read") then Some Read
    else if bytes_eq word (codes "stb") then Some Stb
    else if bytes_eq word (codes "clear") then Some Clear
    else if bytes_eq word (codes "trigger") then Some Trigger
    else None

-- the command of a word and a text
abbrev pub text_command : List ℕ → List ℕ → Option ClientCommand
text_command word text =
    if bytes_eq word (codes "query") then Some (Query text)
    else if bytes_eq word (codes "write") then Some (Write text)
    else None

-- the command of the words behind the device
abbrev pub client_command_of : List (List ℕ) → Option ClientCommand
client_command_of (word ∷ []) = bare_command word
client_command_of (word ∷ text ∷ []) = text_command word text
client_command_of _ = None

-- what is asked at a host, where the words behind it have their form, and the device's text is no longer than a call takes
abbrev pub ask_at : List ℕ → List ℕ → List ℕ → List (List ℕ) → Option Ask
ask_at host port device rest =
    if nat_lt DEVICE_MAX (length device) then None
    else option_and_then (λ number. option_map (λ command. record { host = host; port = number; device = device; command = command }) (client_command_of rest)) (port_of port)

-- what words ask: a host, a port, a device, and a command
abbrev pub ask_of : List (List ℕ) → Option Ask
ask_of (host ∷ port ∷ device ∷ rest) = ask_at host port device rest
ask_of _ = None

-- the line that a command writes: its text and LF; nothing where it has none
abbrev pub line_sent : ClientCommand → List ℕ
line_sent (Query text) = text ++ 10 ∷ []
line_sent (Write text) = text ++ 10 ∷ []
line_sent _ = []

-- what the code's own values show
abbrev pub command_shown : declared.Command → ClientCommand
command_shown (seen.Query text) = Query text.now
command_shown (seen.Write text) = Write text.now
command_shown seen.Read = Read
command_shown seen.Stb = Stb
command_shown seen.Clear = Clear
command_shown seen.Trigger = Trigger

abbrev pub ask_shown : asks.Ask → Ask
ask_shown ask = record { host = ask.host.now; port = ask.port; device = ask.device.now; command = command_shown ask.command }
