-- To be believed.
-- The lines of a server whose bus is behind another box, beside those of each server.
use Rattle.std.specs.Prelude.{ℕ, List, [], ◌++◌, codes, decimal}
use Rattle.vx_client.specs.declared.answers.ClientErr.{ClientErr}
use Rattle.vx_client.specs.declared.answers.ClientErr.TheVariants as err
use Rattle.vx_upstream.specs.declared.open.OpenErr.{OpenErr}
use Rattle.vx_upstream.specs.declared.open.OpenErr.TheVariants as cause

-- the words have no form that the server knows
abbrev pub relay_usage_line : List ℕ
relay_usage_line = codes "usage: vxgate --upstream HOST PORT [NAME] OPTIONS\n"

-- the number of the error by which the box answered, where it did
abbrev pub error_text : ClientErr → List ℕ
error_text (err.Device n) = codes " " ++ decimal n
error_text _ = []

-- which step the box's bus couldn't be had for, and by which error of the box, where it answered one
abbrev pub unopened_text : OpenErr → List ℕ
unopened_text cause.NoMemory = codes "memory"
unopened_text cause.NoReach = codes "reach"
unopened_text (cause.NoLink e) = codes "link" ++ error_text e
unopened_text (cause.NoClear e) = codes "clear" ++ error_text e
unopened_text (cause.NoRemoteOff e) = codes "remote" ++ error_text e
unopened_text (cause.NoAddress e) = codes "address" ++ error_text e

abbrev pub unopened_line : OpenErr → List ℕ
unopened_line e = codes "fault upstream " ++ unopened_text e ++ codes "\n"
