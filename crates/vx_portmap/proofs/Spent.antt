-- What a stream that was served leaves of its peer.
use Rattle.std.proofs.Common.{◌≡◌, ◌⊎◌, inl, inr, true, List, ◌++◌, Option, None, Some, ap, subst, ◌∙◌, sym}
use Rattle.std.specs.Prelude.{not}
use Rattle.std.proofs.lemmas.Bool.{false≢true}
use Rattle.vx_io_traits.specs.Faults.{Rose}
use Rattle.vx_peers.specs.Serving.{is_cut}
use Rattle.vx_peers.proofs.Laws.{ended-spent}
use Rattle.vx_io_traits.specs.declared.links.Link.{Ghosts}
use Rattle.vx_stream.specs.Answered.{Conversation}
use Rattle.vx_stream.specs.Stopping.{StreamAnswered}
use Rattle.vx_stream.specs.declared.ends.End.{End}
use Rattle.vx_stream.specs.declared.ends.End.TheVariants as stream
use Rattle.vx_portmap.specs.declared.streams.TheConstants.{PIECE}
use Rattle.vx_portmap.specs.declared.limits.TheConstants.{MESSAGE_MAX, STREAM_MAX}
use Rattle.vx_portmap.specs.declared.table.Mapping.{Mapping}
use Rattle.vx_portmap.specs.declared.ends.MapEnd.{MapEnd}
use Rattle.vx_portmap.specs.Streaming.{StreamDid, Maps, map_end}
use Rattle.vx_portmap.specs.Mapped.{is_own, is_whole}

-- a stream whose peer was cut short ended so by a fault of its link
cut-by : {L : Type 0} (ways : Ghosts L) (before : Conversation (List Mapping) L) (ended : Option End) (after : Conversation (List Mapping) L)
    → StreamAnswered Maps ways MESSAGE_MAX PIECE (Some STREAM_MAX) before ended after
    → is_cut (is_own (map_end ended)) (is_whole (map_end ended)) (ways.left before.link) (ways.left after.link) ≡ true
    → Rose (ways.receive_faults before.link) (ways.receive_faults after.link) ⊎ Rose (ways.send_faults before.link) (ways.send_faults after.link)
cut-by ways before None after d cut = absurd (false≢true cut)
cut-by ways before (Some stream.Closed) after d cut =
    absurd (false≢true (sym (ap not (ended-spent (ways.left before.link) (ways.left after.link) (d.front ++ d.behind) d.progress.goes.left d.ended.5)) ∙ cut))
cut-by ways before (Some (stream.CutShort n)) after d cut =
    absurd (false≢true (sym (ap not (ended-spent (ways.left before.link) (ways.left after.link) (d.front ++ d.behind) d.progress.goes.left d.ended.6)) ∙ cut))
cut-by ways before (Some (stream.Junk n)) after d cut = absurd (false≢true cut)
cut-by ways before (Some stream.TooLong) after d cut = absurd (false≢true cut)
cut-by ways before (Some stream.ReadFault) after d cut = inl d.ended.4
cut-by ways before (Some stream.WriteFault) after d cut = inr d.ended.1.rose

-- a peer that was cut short was so by a fault of its link
pub cut-rose : {L : Type 0} (ways : Ghosts L) (ports : List Mapping) (link : L) (how : MapEnd) (link' : L)
    → StreamDid ways ports link how link' → is_cut (is_own how) (is_whole how) (ways.left link) (ways.left link') ≡ true
    → Rose (ways.receive_faults link) (ways.receive_faults link') ⊎ Rose (ways.send_faults link) (ways.send_faults link')
cut-rose ways ports link how link' d cut =
    cut-by ways (record { server = ports; link = link }) d.ended (record { server = ports; link = link' }) d.did
    (subst (λ h. is_cut (is_own h) (is_whole h) (ways.left link) (ways.left link') ≡ true) d.how_is cut)
