-- A stream over which a table is looked up.
use Rattle.std.proofs.Common.{◌≡◌, ℕ, List, [], ◌∷◌, Option, None, Some, subst, ◌∙◌}
use Rattle.vx_record.specs.Buffer.{BufState, fresh}
use Rattle.vx_io_traits.specs.declared.links.Link.{Ghosts}
use Rattle.vx_stream.specs.Answered.{Answered, AnswersAll, Conversation}
use Rattle.vx_stream.specs.Stopping.{StreamAnswered}
use Rattle.vx_stream.specs.declared.ends.End.{End}
use Rattle.vx_stream.specs.declared.ends.End.TheVariants as stream
use Rattle.vx_portmap.specs.declared.streams.TheConstants.{PIECE}
use Rattle.vx_portmap.specs.declared.limits.TheConstants.{MESSAGE_MAX, STREAM_MAX}
use Rattle.vx_portmap.specs.declared.table.Mapping.{Mapping}
use Rattle.vx_portmap.specs.declared.ends.MapEnd.{MapEnd}
use Rattle.vx_portmap.specs.Streaming.{StreamDid, Maps, map_end}

-- messages leave the table
all-kept : (ports ports' : List Mapping) (answered : List Answered) → AnswersAll Maps ports answered ports' → ports' ≡ ports
all-kept ports ports' [] same = same
all-kept ports ports' (one ∷ more) answers = all-kept answers.0 ports' more answers.2 ∙ answers.1.1

-- so does a whole stream
table-kept : {L : Type 0} (ways : Ghosts L) (limit room : ℕ) (most : Option ℕ) (before : Conversation (List Mapping) L) (ended : Option End) (after : Conversation (List Mapping) L)
    → StreamAnswered Maps ways limit room most before ended after → after.server ≡ before.server
table-kept ways limit room most before ended after d =
    by ended d ∙ all-kept before.server d.last d.answered d.progress.answers where
      by : (o : Option End) → (e : StreamAnswered Maps ways limit room most before o after) → after.server ≡ e.last
      by None e = e.left
      by (Some stream.Closed) e = e.left
      by (Some (stream.CutShort n)) e = e.left
      by (Some (stream.Junk n)) e = e.ended.4.1
      by (Some stream.TooLong) e = e.left
      by (Some stream.ReadFault) e = e.left
      by (Some stream.WriteFault) e = e.left

-- the stream was served, with one table from its beginning to its end
pub stream-did : {L : Type 0} (ways : Ghosts L) (ports ports' : List Mapping) (link : L) (buffer : BufState) (ended : Option End) (how : MapEnd) (link' : L)
    → buffer ≡ fresh MESSAGE_MAX → how ≡ map_end ended
    → StreamAnswered Maps ways buffer.limit PIECE (Some STREAM_MAX) (record { server = ports; link = link }) ended (record { server = ports'; link = link' })
    → StreamDid ways ports link how link'
stream-did {L} ways ports ports' link buffer ended how link' new is did =
    let before : Conversation (List Mapping) L = record { server = ports; link = link } in
    let W : ℕ → List Mapping → Type 0 = λ limit table. StreamAnswered Maps ways limit PIECE (Some STREAM_MAX) before ended (record { server = table; link = link' }) in
    record {
      ended = ended;
      how_is = is;
      did = subst (λ t. W MESSAGE_MAX t) (table-kept ways buffer.limit PIECE (Some STREAM_MAX) before ended (record { server = ports'; link = link' }) did)
          (subst (λ (b : BufState). W b.limit ports') new did);
    }
