-- How a run ends that has no rules.
use Rattle.std.proofs.Common.{◌+◌, inl, inr, ℕ, List, Err, refl, arith}
use Rattle.vx_text.specs.Ends.{End}
use Rattle.vx_text.specs.Reading.{GivesAll, GivesTooMuch, GivesUpTo}
use Rattle.vx_policy.specs.declared.policy.TheConstants.{TEXT_MAX}
use Rattle.vx_policy.specs.declared.policy.PolicyErr.{PolicyErr}
use Rattle.vx_policy.specs.declared.policy.PolicyErr.TheVariants as err
use Rattle.vx_policy.specs.Reading.{IsRead}
use Rattle.vx_policy.specs.Texts.{form_line, many_line, policy_long_line}
use Rattle.vx_guard.specs.declared.status.GuardStatus.{GuardStatus}
use Rattle.vx_guard.specs.declared.status.GuardStatus.TheVariants as status
use Rattle.vx_guard.specs.Outcome.{GuardEnds, IsGuardRefused, IsGuardTold, IsUnruled, GuardPutsLine}

-- a line that tells why was written, or the sink failed in it
pub line-told : (ends : GuardEnds) (line : List ℕ) (how : GuardStatus) → IsGuardRefused ends.source ends.source_after line → GuardPutsLine status.PolicyFault line ends.sink ends.sink_after how → IsUnruled ends how
line-told ends line how refused (inl told) = rw told.0 (line, refused, told.1)
line-told ends line how refused (inr told) = rw told.0 (line, refused, told.1)

-- the source gave more than a policy may have
pub long_told : (ends : GuardEnds) (text : List ℕ) (how : GuardStatus) → GivesTooMuch TEXT_MAX ends.source ends.source_after text → GuardPutsLine status.PolicyFault policy_long_line ends.sink ends.sink_after how → IsUnruled ends how
long_told ends text how gives told = line-told ends policy_long_line how (inl (refl, text, gives)) told

-- a text that was given whole is no longer than may be read
pub gave-up-to : (source source' : End) (text : List ℕ) → GivesAll TEXT_MAX source source' text → GivesUpTo (TEXT_MAX + 1) source source'
gave-up-to source source' text gives = let within = gives.within in record { bytes = text; given = gives.given; within = omega arith }

-- its text is no policy
pub text_told : (ends : GuardEnds) (text : List ℕ) (why : PolicyErr) (how : GuardStatus) → GivesAll TEXT_MAX ends.source ends.source_after text → IsRead text (Err why)
    → IsGuardTold why ends.sink ends.sink_after how → IsUnruled ends how
text_told ends text (err.Form line) how gives read told = line-told ends (form_line line) how (inr (text, gives, inl (line, refl, read))) told
text_told ends text err.TooMany how gives read told = line-told ends many_line how (inr (text, gives, inr (refl, read))) told
text_told ends text err.NoMemory how gives read told =
    rw told.0 (gave-up-to ends.source ends.source_after text gives, told.1)
