-- To be believed.
-- How a server ends that has its options and its bus, by what its net, its spawner and its sink show before and after.
use Rattle.std.specs.Prelude.{◌≡◌, ◌≤◌, ◌<◌, ◌-◌, ◌^◌, ℕ, min, List, ◌++◌, ◌⊎◌}
use Rattle.std.specs.Io.KnownBytes.{Appends}
use Rattle.vx_io_traits.specs.Faults.{Rose}
use Rattle.vx_io_traits.specs.declared.nets.Net.{Ghosts as NetTold}
use Rattle.vx_text.specs.Ends.{End}
use Rattle.vx_text.specs.Writing.{StopsIn}
use Rattle.vx_startup.specs.declared.words.Options.{Options}
use Rattle.vx_startup.specs.Lines.{listening_line, server_served_line}
use Rattle.vx_startup.specs.declared.status.ServerStatus.{ServerStatus}
use Rattle.vx_startup.specs.declared.status.ServerStatus.TheVariants as status

-- a net: how many of its calls failed, how many links its own port gave, and how often that told that no more come
pub record NetShown : Type 0 where
  pub faults : ℕ
  pub given : ℕ
  pub ended : ℕ

-- what a net shows, of all that its trait tells; `P` is its ports' type, and `L` that of the links that they give
abbrev pub net_shown : {N P L : Type 0} → NetTold N P L → N → NetShown
net_shown told net = record { faults = told.faults net; given = told.given net; ended = told.ended net }

-- the net and the sink
pub record Ports : Type 0 where
  pub net : NetShown
  pub sink : End

-- The net gave so many links, which is told up to 2^64 - 1, no more than the limit, where there is one: just as many, or as many
-- as came before it told that no more come.
pub record TookLinks (limit : ℕ) (before after : NetShown) (number : ℕ) : Type 0 where
  pub grew : before.given ≤ after.given
  pub number_is : number ≡ min (after.given - before.given) (2 ^ 64 - 1)
  pub within : 0 < limit → number ≤ limit
  pub why : ((0 < limit) × (number ≡ limit)) ⊎ Rose before.ended after.ended

-- the first line of a server
abbrev pub first_line : Options → List ℕ
first_line o = listening_line o.core o.abort

-- the sink took the first of these lines, and failed in the second
pub record StopsBehind (before after : End) (first second : List ℕ) : Type 0 where
  pub mid : End
  pub taken : Appends before.bytes mid.bytes first
  pub counted : before.faults ≤ mid.faults
  pub stops : StopsIn mid after second

-- How a server ends that has announced its ports, and the number of the tally that it gives back.
abbrev pub LinksServed : ℕ → Ports → Ports → ℕ → ServerStatus → Type 0
-- it took so many links, and as many were served; the second line was written
LinksServed limit before after tally status.Served =
    TookLinks limit before.net after.net tally × Appends before.sink.bytes after.sink.bytes (server_served_line tally)
-- a wait for a link failed
LinksServed limit before after tally status.NetFailed = Rose before.net.faults after.net.faults × (after.sink ≡ before.sink)
-- so it did, and the sink failed in that line
LinksServed limit before after tally status.SinkFailed =
    TookLinks limit before.net after.net tally × StopsIn before.sink after.sink (server_served_line tally)
LinksServed limit before after tally _ = ⊥

-- How a server with all its workers ends, the line that announces its ports with it.
abbrev pub LinksEnd : Options → Ports → Ports → ℕ → ServerStatus → Type 0
-- it took so many links, and as many were served; both lines were written
LinksEnd o before after tally status.Served =
    TookLinks o.limit before.net after.net tally × Appends before.sink.bytes after.sink.bytes (first_line o ++ server_served_line tally)
-- a wait for a link failed
LinksEnd o before after tally status.NetFailed =
    Rose before.net.faults after.net.faults × Appends before.sink.bytes after.sink.bytes (first_line o)
-- the sink failed in the first line, and no link was taken; or it took that line, and failed in the second
LinksEnd o before after tally status.SinkFailed =
    (StopsIn before.sink after.sink (first_line o) × (after.net.given ≡ before.net.given) × (after.net.ended ≡ before.net.ended))
    ⊎ (TookLinks o.limit before.net after.net tally × StopsBehind before.sink after.sink (first_line o) (server_served_line tally))
LinksEnd o before after tally _ = ⊥

-- no link was taken, and nothing was written
abbrev pub IsUnstarted : Ports → Ports → Type 0
IsUnstarted before after = (after.net.given ≡ before.net.given) × (after.net.ended ≡ before.net.ended) × (after.sink ≡ before.sink)

-- How one ends that opens its ports and starts its workers first; `refused` is how many works the spawner has refused.
abbrev pub ServerEndsRun : Options → Ports → ℕ → Ports → ℕ → ℕ → ServerStatus → Type 0
-- a port couldn't be opened or bound; or a wait for a link failed
ServerEndsRun o before refused after refused' tally status.NetFailed =
    (Rose before.net.faults after.net.faults × IsUnstarted before after) ⊎ LinksEnd o before after tally status.NetFailed
ServerEndsRun o before refused after refused' tally status.WorkerRefused = Rose refused refused' × IsUnstarted before after
ServerEndsRun o before refused after refused' tally status.NoMemory = IsUnstarted before after
ServerEndsRun o before refused after refused' tally how = LinksEnd o before after tally how
