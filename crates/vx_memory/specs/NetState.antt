-- A net over memory: the links that its ports have left to give, and which of its calls fail.
use Rattle.std.specs.Prelude.{ℕ, ◌+◌, Bool, true, List, [], ◌∷◌, drop, if◌then◌else◌}
use Rattle.vx_io_traits.specs.Faults.{one_more, fails_next}
use Rattle.vx_io_traits.specs.declared.dials.DialOut.{DialOut}
use Rattle.vx_io_traits.specs.declared.dials.DialOut.TheVariants.{Up, Failed as Unopened}
use Rattle.vx_io_traits.specs.declared.listeners.Accepted.{Accepted}
use Rattle.vx_io_traits.specs.declared.listeners.Accepted.TheVariants.{Peer, Ended, Failed}
use Rattle.vx_io_traits.specs.declared.listeners.Bound.{Bound}
use Rattle.vx_io_traits.specs.declared.listeners.Bound.TheVariants.{Port, Failed as Unbound}

pub record NetState (L : Type 0) : Type 0 where
  -- the links that its own port has left to give
  pub core : List L
  -- the links of the next port that it binds
  pub abort : List L
  -- the numbers of the calls that fail, counted from 1 over open, accept and bind together
  pub fails : List ℕ
  -- how many calls there were
  pub calls : ℕ
  -- how many of them failed
  pub faults : ℕ
  -- whether its own port is open
  pub is_open : Bool
  -- how many links its own port gave
  pub given : ℕ
  -- how often its own port told that no more links come
  pub ended : ℕ

-- the net with one more call counted
abbrev pub counted : {L : Type 0} → NetState L → NetState L
counted s = record s { calls = one_more s.calls }

-- the net after a call that failed
abbrev pub after_fault : {L : Type 0} → NetState L → NetState L
after_fault s = record s { calls = one_more s.calls; faults = one_more s.faults }

-- what an opening of its own port answers
abbrev pub open_answer : {L : Type 0} → NetState L → DialOut
open_answer s = if fails_next s.fails s.calls then Unopened else Up

-- the net after that answer
abbrev pub after_open : {L : Type 0} → NetState L → DialOut → NetState L
after_open s Up = record s { calls = one_more s.calls; is_open = true }
after_open s Unopened = after_fault s

-- what a port with these links left answers to a wait
abbrev pub next_link : {L : Type 0} → List L → Accepted L
next_link [] = Ended
next_link (link ∷ later) = Peer link

-- what a wait at its own port answers
abbrev pub accept_answer : {L : Type 0} → NetState L → Accepted L
accept_answer s = if fails_next s.fails s.calls then Failed else next_link s.core

-- the net after that answer
abbrev pub after_accept : {L : Type 0} → NetState L → Accepted L → NetState L
after_accept s (Peer link) = record s { core = drop 1 s.core; calls = one_more s.calls; given = s.given + 1 }
after_accept s Ended = record s { calls = one_more s.calls; ended = one_more s.ended }
after_accept s Failed = after_fault s

-- what the binding of another port answers: a port with the links of that, the next time one with none
abbrev pub bind_answer : {L : Type 0} → NetState L → Bound (List L)
bind_answer s = if fails_next s.fails s.calls then Unbound else Port s.abort

-- the net after that answer
abbrev pub after_bind : {L : Type 0} → NetState L → Bound (List L) → NetState L
after_bind s (Port links) = record s { abort = []; calls = one_more s.calls }
after_bind s Unbound = after_fault s
