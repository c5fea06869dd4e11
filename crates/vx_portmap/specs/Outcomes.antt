-- The accept_stat of an outcome and what it carries (RFC 5531, section 9).
use Rattle.std.specs.Prelude.{ℕ, List, [], ◌∷◌}
use Rattle.vx_portmap.specs.declared.table.Mapping.{Mapping}
use Rattle.vx_portmap.specs.declared.replies.Outcome.{Outcome}
use Rattle.vx_portmap.specs.declared.replies.Outcome.TheVariants.{ProgUnavail, ProgMismatch, ProcUnavail, GarbageArgs, Null, Port, Dump}
use Rattle.vx_portmap.specs.Answering.{success, garbage, null_results, dump_results}

abbrev pub outcome_numbers : List Mapping → Outcome → List ℕ
outcome_numbers ports ProgUnavail = 1 ∷ []
outcome_numbers ports ProgMismatch = 2 ∷ 2 ∷ 2 ∷ []
outcome_numbers ports ProcUnavail = 3 ∷ []
outcome_numbers ports GarbageArgs = garbage
outcome_numbers ports Null = success null_results
outcome_numbers ports (Port port) = success (port ∷ [])
outcome_numbers ports Dump = success (dump_results ports)
