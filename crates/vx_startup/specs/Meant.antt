-- To be believed.
-- What words mean to the server.
use Rattle.std.specs.Prelude.{◌≡◌, ◌⊎◌, ◌≤◌, ℕ, ⊤, Bool, false, List, [], ◌∷◌, Option, Some, None, option_map, string_bytes, unwrap_or, codes}
use Rattle.std.specs.Option.{option_map_or}
use Rattle.std.specs.Str.{bytes_eq}
use Rattle.std.specs.Str.Parse.{digits_value, without_leading_plus}
use Rattle.clap.specs.Walk.{Row, Text, all_of, first_of}
use Rattle.clap.specs.Simple.{matches_of}
use Rattle.clap.specs.Kinds.{Kinds}
use Rattle.clap.specs.Faults.{fault_of}
use Rattle.clap.specs.declared.error.kind.ErrorKind.TheVariants as kind
use Rattle.vx_policy.specs.Names.{names_with_all}
use Rattle.vx_startup.specs.Form.{vxgate}
use Rattle.vx_startup.specs.declared.words.Options.{Options}
use Rattle.vx_startup.specs.declared.words.Asked.{Asked}
use Rattle.vx_startup.specs.declared.words.Asked.TheVariants as asked

-- words are taken; or they ask for the help or the version; or they are refused
pub data Verdict : Type 0 where
  taken : Verdict
  told : Verdict
  refused : Verdict

abbrev pub verdict_of : Kinds → Verdict
verdict_of [] = taken
verdict_of (kind.DisplayHelp ∷ rest) = told
verdict_of (kind.DisplayVersion ∷ rest) = told
verdict_of (other ∷ rest) = refused

-- by the first step of reading the words at which `clap` fails, if it fails
unfoldable pub verdict : List Text → Verdict
verdict words = verdict_of (fault_of vxgate words)

-- what `clap` finds of each option in words that it takes
unfoldable pub rows : List Text → List Row
rows words = matches_of vxgate words

-- the number that a text writes, in decimal digits behind at most one `+`
abbrev pub number_of : Text → ℕ
number_of text = digits_value 10 (without_leading_plus text)

-- the number of an option: of its value in the words, or of its default
abbrev pub given : Text → List Row → Option ℕ
given name found = option_map number_of (first_of name found)

-- whether a flag is set: its value is `true`, as of one in the words
abbrev pub is_set : Text → List Row → Bool
is_set name found = option_map_or (λ text. bytes_eq text (codes "true")) (first_of name found) false

-- the options have the numbers that were found, and the log and the port mapper are asked for where their flags are set
pub record Sets (found : List Row) (o : Options) : Type 0 where
  pub core : given (codes "core") found ≡ Some o.core
  pub abort : given (codes "abort") found ≡ Some o.abort
  pub sample : given (codes "sample") found ≡ Some o.sample
  pub workers : given (codes "workers") found ≡ Some o.workers
  pub limit : given (codes "limit") found ≡ Some o.limit
  pub keepalive : given (codes "keepalive") found ≡ Some o.keepalive
  pub send_timeout : given (codes "send-timeout") found ≡ Some o.send_timeout
  pub idle : given (codes "idle") found ≡ Some o.idle
  pub abort_idle : given (codes "abort-idle") found ≡ Some o.abort_idle
  pub patience : given (codes "patience") found ≡ Some o.patience
  pub log : is_set (codes "log") found ≡ o.log
  pub map : is_set (codes "map") found ≡ o.map

-- each number lies in its range
pub record IsServerInRange (o : Options) : Type 0 where
  pub core : (1 ≤ o.core) × (o.core ≤ 65535)
  pub abort : (1 ≤ o.abort) × (o.abort ≤ 65535)
  pub sample : (1 ≤ o.sample) × (o.sample ≤ 60000)
  pub workers : (1 ≤ o.workers) × (o.workers ≤ 64)
  pub limit : o.limit ≤ 1000000
  pub keepalive : o.keepalive ≤ 86400
  pub send_timeout : o.send_timeout ≤ 86400
  pub idle : o.idle ≤ 86400
  pub abort_idle : o.abort_idle ≤ 86400
  pub patience : (1 ≤ o.patience) × (o.patience ≤ 1000)

-- the words are taken, and these are the options that they set
abbrev pub IsSetBy : List Text → Options → Type 0
IsSetBy words o = (verdict words ≡ taken) × Sets (rows words) o

-- the texts that `--name` gives, in order
abbrev pub name_texts : List Row → List Text
name_texts found = unwrap_or (all_of (codes "name") found) []

-- the names that words give, where each may be added behind those before it
abbrev pub names_given : List Text → Option (List (Text × Text))
names_given words = names_with_all [] (name_texts (rows words))

-- the text that `--rules` gives, where it is given
abbrev pub rules_file : List Row → Option Text
rules_file found = first_of (codes "rules") found

-- the file of access rules that words name, where they name one
abbrev pub rules_given : List Text → Option Text
rules_given words = rules_file (rows words)

-- the one answer that the words have, or want of memory
abbrev pub ServerAnswers : List Text → Asked → Type 0
ServerAnswers words (asked.Serve o names file) =
    IsSetBy words o × IsServerInRange o × (names_given words ≡ Some names) × (rules_given words ≡ option_map string_bytes file)
ServerAnswers words (asked.Tell text) = verdict words ≡ told
ServerAnswers words asked.Usage = (verdict words ≡ refused) ⊎ ((verdict words ≡ taken) × (names_given words ≡ None))
ServerAnswers words asked.NoMemory = ⊤

-- the options where no word sets one
abbrev pub usual : Options
usual = record {
  core = 9010;
  abort = 9011;
  sample = 10;
  workers = 16;
  limit = 0;
  keepalive = 120;
  send_timeout = 60;
  idle = 0;
  abort_idle = 5;
  patience = 10;
  log = false;
  map = false;
}
