-- To be believed.
-- The command `vxgate` as `clap` sees it: ten options, each with one number for its value, two flags, an option that may be given
-- again and again, each time with one text, and an option with one text.
use Rattle.std.specs.Prelude.{ℕ, List, [], ◌∷◌, ◌++◌, Some, true, codes}
use Rattle.clap.specs.Walk.{Rule, Text}
use Rattle.clap.specs.Simple.{App, new_app, new_rule, on_top, with_rule}
use Rattle.clap.specs.declared.builder.action.ArgAction.TheVariants.{Append, Set, SetTrue}
use Rattle.clap.specs.declared.builder.value_parser.ValueParser.TheVariants.{Bool, Unsigned}

-- the option `--NAME NUMBER`, where the number lies from `least` to `most`, and is `usual` where the option is left out
abbrev pub number_option : Text → Text → ℕ → ℕ → Rule
number_option name usual least most = record (new_rule name) {
  long = Some name;
  action = Some Set;
  value_names = 1;
  defaults = usual ∷ [];
  parser = Some (Unsigned least most);
}

-- the flag `--NAME`, which has no value of its own: `true` where it is set, and `false` where it is left out
abbrev pub flag : Text → Rule
flag name = record (new_rule name) {
  long = Some name;
  action = Some SetTrue;
  parser = Some Bool;
}

-- the option `--NAME TEXT`, which may be given again and again
abbrev pub text_option : Text → Rule
text_option name = record (new_rule name) {
  long = Some name;
  action = Some Append;
  value_names = 1;
}

-- the option `--NAME FILE`, which may be given once, and whose value is any text
abbrev pub file_option : Text → Rule
file_option name = record (new_rule name) {
  long = Some name;
  action = Some Set;
  value_names = 1;
}

-- two ports, milliseconds, threads, and a number of connections
abbrev pub serving : List Rule
serving =
    number_option (codes "core") (codes "9010") 1 65535
    ∷ number_option (codes "abort") (codes "9011") 1 65535
    ∷ number_option (codes "sample") (codes "10") 1 60000
    ∷ number_option (codes "workers") (codes "16") 1 64
    ∷ number_option (codes "limit") (codes "0") 0 1000000
    ∷ []

-- seconds that peers are waited for, up to a day, or 0 for no end; milliseconds that a box is waited for; the flags of the log and of
-- the port mapper; names for devices; and the file of access rules
abbrev pub timing : List Rule
timing =
    number_option (codes "keepalive") (codes "120") 0 86400
    ∷ number_option (codes "send-timeout") (codes "60") 0 86400
    ∷ number_option (codes "idle") (codes "0") 0 86400
    ∷ number_option (codes "abort-idle") (codes "5") 0 86400
    ∷ number_option (codes "patience") (codes "10") 1 1000
    ∷ flag (codes "log")
    ∷ flag (codes "map")
    ∷ text_option (codes "name")
    ∷ file_option (codes "rules")
    ∷ []

abbrev pub options : List Rule
options = serving ++ timing

-- a command with these arguments behind its own
abbrev pub with_rules : App → List Rule → App
with_rules a [] = a
with_rules a (r ∷ rest) = with_rules (with_rule a r) rest

-- these options, and `--help` and `--version`; the program's name isn't among the words
abbrev pub vxgate : App
vxgate = on_top (λ s. record s { rules = options; no_binary_name = true; has_version = true }) (new_app (codes "vxgate"))
