-- Steps of playing a script line by line.
use Rattle.std.proofs.Common.{◌≡◌, ℕ, ◌+◌, ◌≤◌, map, List, [], ◌∷◌, ◌++◌, Option, Some, None, IsSome, refl, ap, sym, subst, ◌∙◌, inl, inr, ◌⊎◌, arith, append-nil}
use Rattle.std.specs.List.{flat_map}
use Rattle.std.proofs.lemmas.List.{append_assoc}
use Rattle.std.proofs.lemmas.List.Elements.{All-append, All-nil}
use Rattle.std.proofs.lemmas.Grind.{flat_map-append}
use Rattle.std.specs.Io.KnownBytes.{Appends}
use Rattle.std.proofs.KnownBytes.{Appends-trans}
use Rattle.vx_text.proofs.Laws.Moved.{stops-behind}
use Rattle.vx_script.specs.declared.Cause.{Cause}
use Rattle.vx_script.specs.declared.Version.{Version}
use Rattle.vx_script.specs.Command.{Command}
use Rattle.vx_play.specs.declared.run.TheConstants.{SCRIPT_MAX}
use Rattle.vx_play.specs.declared.run.PlayStatus.{PlayStatus}
use Rattle.vx_play.specs.declared.run.PlayStatus.TheVariants as status
use Rattle.vx_text.specs.Ends.{End}
use Rattle.vx_text.specs.Reading.{GivesAll, GivesTooMuch}
use Rattle.vx_text.specs.Writing.{StopsIn}
use Rattle.vx_setup.specs.Script.{Step, Script, script, script_by, script_from, commands, behind_steps}
use Rattle.vx_text.specs.TextLines.{lines}
use Rattle.vx_run.specs.Item.{Item, Fault, last_line}
use Rattle.vx_run.specs.RunText.{IsPrintable, item_text, head_text, text}
use Rattle.vx_setup.specs.Rack.{SpareShown}
use Rattle.vx_player.specs.Stage.{Stage, beginning, refusal}
use Rattle.vx_player.specs.Play.{Plays}
use Rattle.vx_player.specs.Upholding.{ArePrintable}
use Rattle.vx_player.specs.PlayerState.{PlayerState}
use Rattle.vx_player.specs.Standing.{PlayerStands}
use Rattle.vx_player.specs.Wanting.{WantsMemory}
use Rattle.vx_play.specs.LinePlayed.{TakesAll, IsPlayed, IsCut, IsPlayBad, IsFrontOf, IsTurnedDown, IsWanting}
use Rattle.vx_play.specs.Ended as ended
use Rattle.vx_play.specs.Ended.{IsFront, IsShort, PutsLast, EndsScript, version_in}
use Rattle.vx_play.specs.UnderWay.{PlayUnderWay}
use Rattle.vx_play.specs.Outcome.{PlayEnds, IsOutcome, ReadsTooMuch, EndsLifted, order_of, form_line, play_long_line}
use Rattle.vx_play.specs.declared.run.Order.TheVariants as order
use Rattle.vx_lift.specs.Lifted.{lifted, strange_line}
use Rattle.vx_player.proofs.Laws.Upholding.{plays-uphold}

-- the text of more items
text_more : (v : Version) (items more : List Item) → text v (items ++ more) ≡ text v items ++ flat_map (item_text v) more
text_more v items more =
    ap (λ xs. head_text v ++ xs) (flat_map-append (item_text v) items more) ∙ sym (append_assoc (head_text v) (flat_map (item_text v) items) (flat_map (item_text v) more))

-- more items that can be printed
more-printable : (v : Version) (items more : List Item) → ArePrintable v items → ArePrintable v more → ArePrintable v (items ++ more)
more-printable v items more all rest = λ is. All-append IsPrintable items more (all is) (rest is)

-- items of a script of this version can be printed
same-printable : (w v : Version) (items : List Item) → w ≡ v → ArePrintable v items → ArePrintable w items
same-printable w v items same all = λ is. all (sym same ∙ is)

-- the commands of a line, as the steps of its number
abbrev pub numbered : ℕ → List Command → List Step
numbered n commands = map (λ command. record { line = n; command = command }) commands

-- commands that were taken behind a play
plays_on : (before mid after : Stage) (steps : List Step) (items : List Item) (n : ℕ) (commands : List Command) (more : List Item) → Plays before steps items mid
    → TakesAll mid commands more after → Plays before (steps ++ numbered n commands) (items ++ more) after
plays_on before mid after [] [] n commands more played took = by before commands more (subst (λ s. TakesAll s commands more after) played took) where
  by : (before : Stage) (commands : List Command) (more : List Item) → TakesAll before commands more after → Plays before (numbered n commands) more after
  by before [] [] h = h
  by before [] (item ∷ items) h = absurd h
  by before (c ∷ commands) [] h = absurd h
  by before (c ∷ commands) (item ∷ items) (is, next, takes, rest) = (is, next, takes, by next commands items rest)
plays_on before mid after [] (i ∷ items) n commands more played took = absurd played
plays_on before mid after (s ∷ steps) [] n commands more played took = absurd played
plays_on before mid after (s ∷ steps) (i ∷ items) n commands more (is, next, takes, rest) took = (is, next, takes, plays_on next mid after steps items n commands more rest took)

-- a script with steps in front of a rest
behind_both : (steps more : List Step) (rest : Script) → behind_steps steps (behind_steps more rest) ≡ behind_steps (steps ++ more) rest
behind_both steps more rest = ap (λ xs. record { steps = xs; bad = rest.bad }) (sym (append_assoc steps more rest.steps))

-- what stands in front of the next line is its steps, and the next line
next_line : (t rest line behind : List ℕ) (v : Version) (count : ℕ) (steps : List Step) (said : Option (List Command))
    → script t ≡ behind_steps steps (script_from v (count + 1) (lines rest)) → lines rest ≡ line ∷ lines behind → commands v line ≡ said
    → script t ≡ behind_steps steps (script_by (count + 1) said (script_from v (count + 1 + 1) (lines behind)))
next_line t rest line behind v count steps said front cut says =
    front ∙ ap (λ ls. behind_steps steps (script_from v (count + 1) ls)) cut
    ∙ ap (λ o. behind_steps steps (script_by (count + 1) o (script_from v (count + 1 + 1) (lines behind)))) says

-- nothing more was written
kept : (before mid after : Option (List ℕ)) (xs : List ℕ) → Appends before mid xs → Appends mid after [] → Appends before after xs
kept before mid after xs taken none = subst (Appends before after) (append-nil xs) (Appends-trans before mid after _ _ taken none)

-- a play begins
pub begun : (t rest : List ℕ) (rack : List SpareShown) (v : Version) (count : ℕ) (player : PlayerState) (before after : End) → v ≡ version_in t
    → script t ≡ script_from v (count + 1) (lines rest) → PlayerStands player (beginning rack) → Appends before.bytes after.bytes (head_text v) → before.faults ≤ after.faults
    → PlayUnderWay t rack v rest count player before after
begun t rest rack v count player before after is front stands put counted = record {
  steps = [];
  items = [];
  stage = beginning rack;
  version_is = sym is;
  is_front = front;
  played = refl;
  stands = stands;
  printable = λ is. All-nil IsPrintable;
  written = subst (Appends before.bytes after.bytes) (sym (append-nil (head_text v))) put;
  counted = counted;
}

-- the sink failed at the first line of the text
pub head-cut : (t : List ℕ) (rack : List SpareShown) (v : Version) (before after : End) → v ≡ version_in t → StopsIn before after (head_text v)
    → (items : List Item) × IsFront t rack items × StopsIn before after (text (version_in t) items)
head-cut t rack v before after is stops = (
  [],
  record {
    steps = [];
    stage = beginning rack;
    played = record { later = (script t).steps; front = refl; played = refl };
    upholds = plays-uphold rack [] [] (beginning rack) refl;
    printable = λ is. All-nil IsPrintable;
  },
  subst (λ w. StopsIn before after (text w [])) is (subst (StopsIn before after) (sym (append-nil (head_text v))) stops),
)

-- a play goes on behind a line that was played
pub goes-on : (t : List ℕ) (rack : List SpareShown) (v : Version) (rest line behind : List ℕ) (count : ℕ) (player next : PlayerState) (before mid after : End)
    → PlayUnderWay t rack v rest count player before mid → lines rest ≡ line ∷ lines behind
    → ((stage : Stage) → PlayerStands player stage → IsPlayed v (commands v line) stage next mid after)
    → mid.faults ≤ after.faults → PlayUnderWay t rack v behind (count + 1) next before after
goes-on t rack v rest line behind count player next before mid after u cut how more =
    let k = how u.stage u.stands in
    let steps = numbered (count + 1) k.commands in
    record {
      steps = u.steps ++ steps;
      items = u.items ++ k.front.items;
      stage = k.front.after;
      version_is = u.version_is;
      is_front = next_line t rest line behind v count u.steps (Some k.commands) u.is_front cut k.said_is
          ∙ behind_both u.steps steps (script_from v (count + 1 + 1) (lines behind));
      played = plays_on (beginning rack) u.stage k.front.after u.steps u.items (count + 1) k.commands k.front.items u.played k.front.takes;
      stands = k.stands;
      printable = more-printable v u.items k.front.items u.printable k.front.printable;
      written = subst (Appends before.bytes after.bytes) (sym (text_more v u.items k.front.items))
          (Appends-trans before.bytes mid.bytes after.bytes _ _ u.written k.written);
      counted = (let a = u.counted in omega arith);
    }

-- at the end of a text its script was played
pub whole-played : (t : List ℕ) (rack : List SpareShown) (v : Version) (rest : List ℕ) (count : ℕ) (player : PlayerState) (before after : End)
    → PlayUnderWay t rack v rest count player before after → rest ≡ []
    → (items : List Item) × ended.IsPlayed t rack items None × Appends before.bytes after.bytes (text (version_in t) items)
whole-played t rack v rest count player before after u at_end =
    let all : script t ≡ behind_steps u.steps (record { steps = []; bad = None }) = u.is_front ∙ ap (λ xs. behind_steps u.steps (script_from v (count + 1) (lines xs))) at_end in (
      u.items,
      record {
        play = record {
          steps = u.steps;
          end = u.stage;
          played = record { later = []; front = ap (λ s. s.steps) all; played = u.played };
          ends = record { all = ap (λ s. s.steps) all ∙ append-nil u.steps; none_bad = ap (λ s. s.bad) all };
        };
        upholds = plays-uphold rack u.steps u.items u.stage u.played;
        printable = same-printable (version_in t) v u.items u.version_is u.printable;
      },
      subst (λ w. Appends before.bytes after.bytes (text w u.items)) (sym u.version_is) u.written,
    )

-- some first commands of a line were taken behind a play
module _ (t : List ℕ) (rack : List SpareShown) (v : Version) (rest line behind : List ℕ) (count : ℕ) (player : PlayerState) (before mid after : End)
    (u : PlayUnderWay t rack v rest count player before mid) (cut : lines rest ≡ line ∷ lines behind) (k : IsFrontOf v (commands v line) u.stage mid after) where
  abbrev front_steps : List Step
  front_steps = u.steps ++ numbered (count + 1) k.commands

  abbrev front_items : List Item
  front_items = u.items ++ k.front.items

  abbrev next_step : Step
  next_step = record { line = count + 1; command = k.command }

  abbrev later_steps : List Step
  later_steps = numbered (count + 1) k.later ++ (script_from v (count + 1 + 1) (lines behind)).steps

  numbered_all : (commands : List Command) (rest : List Step)
      → numbered (count + 1) (commands ++ k.command ∷ k.later) ++ rest ≡ numbered (count + 1) commands ++ next_step ∷ (numbered (count + 1) k.later ++ rest)
  numbered_all [] rest = refl
  numbered_all (c ∷ commands) rest = ap (λ xs. record { line = count + 1; command = c } ∷ xs) (numbered_all commands rest)

  in_front : (script t).steps ≡ front_steps ++ next_step ∷ later_steps
  in_front =
      ap (λ s. s.steps) (next_line t rest line behind v count u.steps (Some (k.commands ++ k.command ∷ k.later)) u.is_front cut k.said_is)
      ∙ ap (λ xs. u.steps ++ xs) (numbered_all k.commands (script_from v (count + 1 + 1) (lines behind)).steps)
      ∙ sym (append_assoc u.steps (numbered (count + 1) k.commands) (next_step ∷ later_steps))

  front_played : Plays (beginning rack) front_steps front_items k.front.after
  front_played = plays_on (beginning rack) u.stage k.front.after u.steps u.items (count + 1) k.commands k.front.items u.played k.front.takes

  front_written : Appends before.bytes after.bytes (text (version_in t) front_items)
  front_written =
      subst (λ w. Appends before.bytes after.bytes (text w front_items)) (sym u.version_is)
      (subst (Appends before.bytes after.bytes) (sym (text_more v u.items k.front.items)) (Appends-trans before.bytes mid.bytes after.bytes _ _ u.written k.written))

  front_printable : ArePrintable (version_in t) front_items
  front_printable = same-printable (version_in t) v front_items u.version_is (more-printable v u.items k.front.items u.printable k.front.printable)

  -- a command behind them is refused
  pub refused-at : (why : Cause) → refusal k.front.after k.command ≡ Some why
      → (items : List Item) × ended.IsPlayed t rack items (Some (record { line = count + 1; cause = why })) × Appends before.bytes after.bytes (text (version_in t) items)
  refused-at why refused = (
    front_items,
    record {
      play = record {
        steps = front_steps;
        end = k.front.after;
        played = record { later = next_step ∷ later_steps; front = in_front; played = front_played };
        ends = inl (record { step = next_step; later = later_steps; next = in_front; line = refl; refused = refused });
      };
      upholds = plays-uphold rack front_steps front_items k.front.after front_played;
      printable = front_printable;
    },
    front_written,
  )

  -- or wants memory
  pub wants-at : WantsMemory k.front.after k.command → (items : List Item) × IsShort t rack items × Appends before.bytes after.bytes (text (version_in t) items)
  wants-at wants = (
    front_items,
    record {
      front = record {
        steps = front_steps;
        stage = k.front.after;
        played = record { later = next_step ∷ later_steps; front = in_front; played = front_played };
        upholds = plays-uphold rack front_steps front_items k.front.after front_played;
        printable = front_printable;
      };
      wants = record { step = next_step; later = later_steps; next = in_front; wants = wants };
    },
    front_written,
  )

-- at a line that is refused its script was played to its first fault
pub fault-played : (t : List ℕ) (rack : List SpareShown) (v : Version) (rest line behind : List ℕ) (count : ℕ) (player : PlayerState) (before mid after : End) (why : Cause)
    → PlayUnderWay t rack v rest count player before mid → lines rest ≡ line ∷ lines behind
    → ((stage : Stage) → PlayerStands player stage → IsPlayBad (commands v line) why mid after ⊎ IsTurnedDown v (commands v line) stage why mid after)
    → (items : List Item) × ended.IsPlayed t rack items (Some (record { line = count + 1; cause = why })) × Appends before.bytes after.bytes (text (version_in t) items)
fault-played t rack v rest line behind count player before mid after why u cut how = stopping (how u.stage u.stands)
  where
    stopping : IsPlayBad (commands v line) why mid after ⊎ IsTurnedDown v (commands v line) u.stage why mid after
        → (items : List Item) × ended.IsPlayed t rack items (Some (record { line = count + 1; cause = why })) × Appends before.bytes after.bytes (text (version_in t) items)
    stopping (inl k) =
        let all = next_line t rest line behind v count u.steps None u.is_front cut k.outside in (
          u.items,
          record {
            play = record {
              steps = u.steps;
              end = u.stage;
              played = record { later = []; front = ap (λ s. s.steps) all; played = u.played };
              ends = inr (record { all = ap (λ s. s.steps) all ∙ append-nil u.steps; bad = ap (λ s. s.bad) all; form = k.form });
            };
            upholds = plays-uphold rack u.steps u.items u.stage u.played;
            printable = same-printable (version_in t) v u.items u.version_is u.printable;
          },
          subst (λ w. Appends before.bytes after.bytes (text w u.items)) (sym u.version_is) (kept before.bytes mid.bytes after.bytes (text v u.items) u.written k.unwritten),
        )
    stopping (inr k) = refused-at t rack v rest line behind count player before mid after u cut k.at why k.refused

-- at a line at which the sink failed a front of the script was played, and of its text a front was written
pub cut-played : (t : List ℕ) (rack : List SpareShown) (v : Version) (rest line behind : List ℕ) (count : ℕ) (player : PlayerState) (before mid after : End)
    → PlayUnderWay t rack v rest count player before mid → lines rest ≡ line ∷ lines behind
    → ((stage : Stage) → PlayerStands player stage → IsCut v (commands v line) stage mid after)
    → (items : List Item) × IsFront t rack items × StopsIn before after (text (version_in t) items)
cut-played t rack v rest line behind count player before mid after u cut how =
    let k = how u.stage u.stands in
    let steps = numbered (count + 1) k.commands in
    let all = next_line t rest line behind v count u.steps (Some k.commands) u.is_front cut k.said_is ∙ behind_both u.steps steps (script_from v (count + 1 + 1) (lines behind)) in
    let played = plays_on (beginning rack) u.stage k.front.after u.steps u.items (count + 1) k.commands k.front.items u.played k.front.takes in (
      u.items ++ k.front.items,
      record {
        steps = u.steps ++ steps;
        stage = k.front.after;
        played = record { later = (script_from v (count + 1 + 1) (lines behind)).steps; front = ap (λ s. s.steps) all; played = played };
        upholds = plays-uphold rack _ _ k.front.after played;
        printable = same-printable (version_in t) v (u.items ++ k.front.items) u.version_is (more-printable v u.items k.front.items u.printable k.front.printable);
      },
      subst (λ w. StopsIn before after (text w (u.items ++ k.front.items))) (sym u.version_is)
          (subst (StopsIn before after) (sym (text_more v u.items k.front.items))
          (stops-behind before mid after (text v u.items) (flat_map (item_text v) k.front.items) u.written u.counted k.stops)),
    )

-- at a line that wants memory the steps in front of it were played
pub short-played : (t : List ℕ) (rack : List SpareShown) (v : Version) (rest line behind : List ℕ) (count : ℕ) (player : PlayerState) (before mid after : End)
    → PlayUnderWay t rack v rest count player before mid → lines rest ≡ line ∷ lines behind
    → ((stage : Stage) → PlayerStands player stage → IsWanting v (commands v line) stage mid after)
    → (items : List Item) × IsShort t rack items × Appends before.bytes after.bytes (text (version_in t) items)
short-played t rack v rest line behind count player before mid after u cut how =
    let k = how u.stage u.stands in
    wants-at t rack v rest line behind count player before mid after u cut k.at k.wants

-- behind the text of a whole script comes the last line, or the sink fails in it
pub last-written : (t : List ℕ) (own rack : List SpareShown) (how : PlayStatus) (fault : Option Fault) (line : List ℕ) (before mid after : End) (result : PlayStatus) → own ≡ rack
    → (((items : List Item) × ended.IsPlayed t rack items fault × Appends before.bytes after.bytes (text (version_in t) items ++ last_line fault)) → EndsScript t rack before after how)
    → ((items : List Item) × ended.IsPlayed t own items fault × Appends before.bytes mid.bytes (text (version_in t) items)) → before.faults ≤ mid.faults → line ≡ last_line fault
    → PutsLast how line mid after result → EndsScript t rack before after result
last-written t own rack how fault line before mid after result alike whole (items, own_played, written) counted same put = ending put
  where
    played : ended.IsPlayed t rack items fault
    played = subst (λ r. ended.IsPlayed t r items fault) alike own_played

    ending : PutsLast how line mid after result → EndsScript t rack before after result
    ending (inl (is, taken)) =
        subst (EndsScript t rack before after) (sym is)
        (whole (items, played, subst (λ l. Appends before.bytes after.bytes (text (version_in t) items ++ l)) same (Appends-trans before.bytes mid.bytes after.bytes _ _ written taken)))
    ending (inr (is, stops)) =
        subst (EndsScript t rack before after) (sym is)
        (inr (items, fault, played, subst (λ l. StopsIn before after (text (version_in t) items ++ l)) same (stops-behind before mid after (text (version_in t) items) line written counted stops)))

-- the sink failed in the text of a step
pub cut-ended : (t : List ℕ) (own rack : List SpareShown) (before after : End) → own ≡ rack
    → ((items : List Item) × IsFront t own items × StopsIn before after (text (version_in t) items)) → EndsScript t rack before after status.SinkFailed
cut-ended t own rack before after alike (items, front, stops) = inl (items, subst (λ r. IsFront t r items) alike front, stops)

-- memory ran out at a step
pub short-ended : (t : List ℕ) (own rack : List SpareShown) (before after : End) → own ≡ rack
    → ((items : List Item) × IsShort t own items × Appends before.bytes after.bytes (text (version_in t) items)) → EndsScript t rack before after status.NoMemory
short-ended t own rack before after alike (items, short, written) = inr (items, subst (λ r. IsShort t r items) alike short, written)

-- what was read is played: what the script's end says is the outcome
read_ended : (words : List (List ℕ)) (rack : List SpareShown) (ends : PlayEnds) (bytes : List ℕ) (how : PlayStatus) → order_of words ≡ Some order.Play
    → GivesAll SCRIPT_MAX ends.source ends.source_after bytes → EndsScript bytes rack ends.sink ends.sink_after how → IsOutcome words rack ends how
read_ended words rack ends bytes status.Done command read how = inl (record { command = command; bytes = bytes; read = read; ended = how })
read_ended words rack ends bytes status.Usage command read how = absurd how
read_ended words rack ends bytes status.SourceFailed command read how = absurd how
read_ended words rack ends bytes status.Fault command read how = inl (record { command = command; bytes = bytes; read = read; ended = how })
read_ended words rack ends bytes status.SinkFailed command read how = inr (inr (inl (record { command = command; bytes = bytes; read = read; ended = how })))
read_ended words rack ends bytes status.NoMemory command read how = inr (inl (record { command = command; bytes = bytes; read = read; ended = how }))
read_ended words rack ends bytes status.TooLong command read how = absurd how

-- and what was read is lifted
lift_ended : (words : List (List ℕ)) (rack : List SpareShown) (ends : PlayEnds) (bytes : List ℕ) (how : PlayStatus) → order_of words ≡ Some order.Lift
    → GivesAll SCRIPT_MAX ends.source ends.source_after bytes → EndsLifted bytes ends.sink ends.sink_after how → IsOutcome words rack ends how
lift_ended words rack ends bytes status.Done command read how = inr (inl (record { command = command; bytes = bytes; read = read; ended = how }))
lift_ended words rack ends bytes status.Usage command read how = absurd how
lift_ended words rack ends bytes status.SourceFailed command read how = absurd how
lift_ended words rack ends bytes status.Fault command read how = inr (inl (record { command = command; bytes = bytes; read = read; ended = how }))
lift_ended words rack ends bytes status.SinkFailed command read how = inr (inr (inr (inl (record { command = command; bytes = bytes; read = read; ended = how }))))
lift_ended words rack ends bytes status.NoMemory command read how = inr (inr (inl (record { command = command; bytes = bytes; read = read; ended = how })))
lift_ended words rack ends bytes status.TooLong command read how = absurd how

-- a script that was read ended so
pub script-ended : (words : List (List ℕ)) (rack : List SpareShown) (ends : PlayEnds) (bytes script_text : List ℕ) (how : PlayStatus) → order_of words ≡ Some order.Play
    → GivesAll SCRIPT_MAX ends.source ends.source_after bytes → script_text ≡ bytes → EndsScript script_text rack ends.sink ends.sink_after how → IsOutcome words rack ends how
script-ended words rack ends bytes script_text how command read same ended =
    read_ended words rack ends bytes how command read (subst (λ t. EndsScript t rack ends.sink ends.sink_after how) same ended)

pub lift-ended : (words : List (List ℕ)) (rack : List SpareShown) (ends : PlayEnds) (bytes script_text : List ℕ) (how : PlayStatus) → order_of words ≡ Some order.Lift
    → GivesAll SCRIPT_MAX ends.source ends.source_after bytes → script_text ≡ bytes → EndsLifted script_text ends.sink ends.sink_after how → IsOutcome words rack ends how
lift-ended words rack ends bytes script_text how command read same ended =
    lift_ended words rack ends bytes how command read (subst (λ t. EndsLifted t ends.sink ends.sink_after how) same ended)

-- behind what was lifted comes the line of the fault, or the sink fails in it
pub form-written : (t line_text : List ℕ) (line : ℕ) (before mid after : End) (result : PlayStatus) → strange_line t ≡ Some line → Appends before.bytes mid.bytes (lifted t)
    → before.faults ≤ mid.faults → line_text ≡ form_line line → PutsLast status.Fault line_text mid after result → EndsLifted t before after result
form-written t line_text line before mid after result strange written counted same put = ending put
  where
    ending : PutsLast status.Fault line_text mid after result → EndsLifted t before after result
    ending (inl (is, taken)) =
        subst (EndsLifted t before after) (sym is)
        (line, strange, subst (λ l. Appends before.bytes after.bytes (lifted t ++ l)) same (Appends-trans before.bytes mid.bytes after.bytes _ _ written taken))
    ending (inr (is, stops)) =
        subst (EndsLifted t before after) (sym is)
        (inr (line, strange, subst (λ l. StopsIn before after (lifted t ++ l)) same (stops-behind before mid after (lifted t) line_text written counted stops)))

-- a script that is too long ended so
pub long-ended : (words : List (List ℕ)) (rack : List SpareShown) (ends : PlayEnds) (result : PlayStatus) → IsSome (order_of words)
    → ((bytes : List ℕ) × GivesTooMuch SCRIPT_MAX ends.source ends.source_after bytes) → PutsLast status.TooLong play_long_line ends.sink ends.sink_after result → IsOutcome words rack ends result
long-ended words rack ends result command (bytes, read) put = ending put
  where
    much : ReadsTooMuch words ends
    much = record { command = command; bytes = bytes; read = read }

    ending : PutsLast status.TooLong play_long_line ends.sink ends.sink_after result → IsOutcome words rack ends result
    ending (inl (is, taken)) = subst (IsOutcome words rack ends) (sym is) (much, taken)
    ending (inr (is, stops)) = subst (IsOutcome words rack ends) (sym is) (inr (inl (much, stops)))
