-- Laws of interleaved events, proved: what the crates above cite, each from the file of this folder that has its proof.
pub mod Jobs
pub mod Ahead
pub mod Kept
pub mod Calm
pub mod Turning
pub mod Ending
pub mod Changes
pub mod Deciding
pub mod Replies
pub mod Linearizing
pub mod Whom
pub mod Making
pub mod Plain
pub mod Hearing
pub mod Reaching
pub mod Freely
pub mod Interrupts
pub mod Sending
pub mod Earlier
pub mod Ways
pub mod ByLines
pub mod Stepping
pub mod Framing
pub mod Later
pub mod TurnFree
pub mod Claims
-- exactly the events that are allowed do what `Does` says: `interleaved-does` and `does-interleaved` are its two ways
pub use Rattle.vx_flow.proofs.Laws.Stepping.{does_law-holds, interleaved-does, does-interleaved}
-- the first lines let a call pass exactly where neither its mark, nor a check, nor a lock is against it, nor
-- another call before it; and whose turn is under way
pub use Rattle.vx_flow.proofs.Laws.ByLines.{admit, admitted-passes, turn-is, turn-own}
-- a call that they let pass they let pass while a turn is under way
pub use Rattle.vx_flow.proofs.Laws.ByLines.{passed-is}
pub use Rattle.vx_flow.proofs.Laws.Replies.{busy-passes}
-- an event changes what `Frame` says, and leaves the rest; so does each line of an answer; a mark leaves the call
pub use Rattle.vx_flow.proofs.Laws.Framing.{frame_law-holds, interleaved-frame, line-leaves, mark-call, another}
-- events linearize to a history of one thread; `linearizes` has it from any state on, `interleaved-linearizes` from the first, each with what holds
-- between events
pub use Rattle.vx_flow.proofs.Laws.Linearizing.{linearization_law-holds, Linearizes, linearizes, interleaved-linearizes, first-sound}
-- what holds between events holds behind each one, and the call of a turn that is left stays
pub use Rattle.vx_flow.proofs.Laws.Linearizing.{stays_sound-law, call_stays-law}
-- and at a later moment; an event that is allowed is a step; a list on its plan isn't off it
pub use Rattle.vx_flow.proofs.Laws.Later.{later-sound, later-stands, step-made, on-is}
-- events that are allowed at a later moment are allowed at an earlier one
pub use Rattle.vx_flow.proofs.Laws.Earlier.{earlier_law-holds}
-- where the list of the turn under way stands, by what is kept of it; it isn't whole before another event than its answer
pub use Rattle.vx_flow.proofs.Laws.Kept.{turn-stand, open_cond}
-- a list on the plan of known transfers begins them
pub use Rattle.vx_flow.proofs.Laws.Whom.{just-front}
-- what holds of the own address, and of the one that a job takes, holds behind a list of the job's
pub use Rattle.vx_flow.proofs.Laws.Plain.{OwnHas, own-after}
-- the ways in which a poll ends
pub use Rattle.vx_flow.proofs.Laws.Ways.{refused_law-holds, waits_law-holds, no_role_law-holds, effect_law-holds, dial_law-holds}
pub use Rattle.vx_flow.proofs.Laws.Ways.{finished_law-holds, broken_law-holds, timeout_law-holds, held_law-holds, sliced_law-holds, begun_law-holds, begins_law-holds, not_yet-at}
-- which channel a connection has behind each change of the state of service requests
pub use Rattle.vx_flow.proofs.Laws.Interrupts.{channel_of, channel-risen, channel-up, channel-down, channel-put, channel-taken}
-- an answer in a history of one thread, in its parts
pub use Rattle.vx_flow.proofs.Laws.Making.{Answered, answer-parts}
-- what a device hears of a write, and all that is claimed of interleaved events
pub use Rattle.vx_flow.proofs.Laws.Hearing.{device-holds}
pub use Rattle.vx_flow.proofs.Laws.Claims.{claims_law-holds}
