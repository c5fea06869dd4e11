-- What a parse leaves of the options, what is answered where words are taken, and what an error is answered with.
use Rattle.std.specs.Prelude.{◌≡◌, ◌≢◌, ◌⊎◌, ℕ, ⊤, false, List, [], ◌∷◌, Some, None, option_map, string_bytes, codes}
use Rattle.clap.specs.Values.{Accepts, IsUnsignedIn}
use Rattle.clap.specs.Matches.{first_value, one_text}
use Rattle.clap.specs.Walk.{Row, Text}
use Rattle.clap.specs.declared.error.kind.ErrorKind.{ErrorKind}
use Rattle.clap.specs.declared.error.kind.ErrorKind.TheVariants as kind
use Rattle.clap.specs.declared.builder.value_parser.ValueParser.TheVariants.{Bool}
use Rattle.clap.specs.declared.parser.matches.Found.{Found}
use Rattle.vx_policy.specs.Names.{names_with_all}
use Rattle.vx_startup.specs.Meant.{IsServerInRange, Sets, name_texts, refused, rules_file, told, verdict_of}
use Rattle.vx_startup.specs.declared.words.Asked.{Asked}
use Rattle.vx_startup.specs.declared.words.Asked.TheVariants as asked

-- an option has a value, which writes a number in its range and is read as it stands
abbrev pub HasNumber : Found → Text → ℕ → ℕ → Type 0
HasNumber found name least most =
    (text : Text) × (first_value found name ≡ Some text) × (one_text found name ≡ Some text)
    × IsUnsignedIn least most text

-- a flag has no value, or one of `true` and `false`, which is read as it stands
abbrev pub HasFlag : Found → Text → Type 0
HasFlag found name =
    ((first_value found name ≡ None) × (one_text found name ≡ None))
    ⊎ ((text : Text) × (first_value found name ≡ Some text) × (one_text found name ≡ Some text) × Accepts false Bool text)

-- each of the ten has one, and each of the flags
pub record IsGiven (found : Found) : Type 0 where
  pub core : HasNumber found (codes "core") 1 65535
  pub abort : HasNumber found (codes "abort") 1 65535
  pub sample : HasNumber found (codes "sample") 1 60000
  pub workers : HasNumber found (codes "workers") 1 64
  pub limit : HasNumber found (codes "limit") 0 1000000
  pub keepalive : HasNumber found (codes "keepalive") 0 86400
  pub send_timeout : HasNumber found (codes "send-timeout") 0 86400
  pub idle : HasNumber found (codes "idle") 0 86400
  pub abort_idle : HasNumber found (codes "abort-idle") 0 86400
  pub patience : HasNumber found (codes "patience") 1 1000
  pub log : HasFlag found (codes "log")
  pub map : HasFlag found (codes "map")

-- the answer to what a parse found, or want of memory
abbrev pub Serves : List Row → Asked → Type 0
Serves found (asked.Serve o names file) =
    Sets found o × IsServerInRange o × (names_with_all [] (name_texts found) ≡ Some names) × (rules_file found ≡ option_map string_bytes file)
Serves found (asked.Tell text) = ⊥
Serves found asked.Usage = names_with_all [] (name_texts found) ≡ None
Serves found asked.NoMemory = ⊤

-- the answer to an error of this kind, or want of memory
abbrev pub Refuses : ErrorKind → Asked → Type 0
Refuses k (asked.Serve o names file) = ⊥
Refuses k (asked.Tell text) = verdict_of (k ∷ []) ≡ told
Refuses k asked.Usage = (verdict_of (k ∷ []) ≡ refused) × (k ≢ kind.OutOfMemory)
Refuses k asked.NoMemory = ⊤
