-- A piece more that is read and told.
use Rattle.std.proofs.Common.{ℕ, List, [], ◌∷◌, ◌++◌, refl, sym, ◌≡◌, ◌∙◌, ap, subst, take, append_assoc}
use Rattle.std.proofs.lemmas.List.{append-nil}
use Rattle.std.proofs.lemmas.List.Concat.{flat_map-append}
use Rattle.tn_traces.specs.declared.line.Side.{Side}
use Rattle.tn_traces.specs.declared.line.Side.TheVariants.{Host, Terminal}
use Rattle.tn_relay.specs.declared.line.Gave.TheVariants.{Bytes as GaveBytes}
use Rattle.tn_relay.specs.Relayed.{Relayed, Reads, way_from, way_to}
use Rattle.cli_taps.specs.Listening.{Listening, Listens, ListenTo, Piece, bytes_from, stream_of}
use Rattle.cli_taps.specs.Taps.{IsTold}

pub listen_more : (first : Listening) (pieces : List Piece) (text : List ℕ) (mid : Listening) (piece : Piece) (more : List ℕ) (last : Listening)
    → ListenTo first pieces text mid → Listens mid piece.side piece.bytes more last → ListenTo first (pieces ++ piece ∷ []) (text ++ more) last
listen_more first [] text mid piece more last (none, same) listens =
    (more, [], last, subst (λ z. Listens z piece.side piece.bytes more last) same listens, ap (λ z. z ++ more) none ∙ sym (append-nil more), (refl, refl))
listen_more first (early ∷ pieces) text mid piece more last (told, others, next, does, parted, rest) listens =
    (told, others ++ more, next, does, ap (λ z. z ++ more) parted ∙ append_assoc told others more, listen_more next pieces others mid piece more last rest listens)

pub stream_more : (side : Side) (pieces : List Piece) (piece : Piece) → stream_of side (pieces ++ piece ∷ []) ≡ stream_of side pieces ++ bytes_from side piece
stream_more side pieces piece = flat_map-append (bytes_from side) pieces (piece ∷ []) ∙ ap (λ z. stream_of side pieces ++ z) (append-nil (bytes_from side piece))

-- a piece was read of a side, and told
pub told_more : (number : ℕ) (side : Side) (old : Relayed) (listening : Listening) (told : List ℕ) (scratch : List ℕ) (count : ℕ) (new : Relayed)
    (text : List ℕ) (after : Listening) → Reads (way_from side old) scratch (GaveBytes count) (way_from side new) → way_to side new ≡ way_to side old
    → Listens listening side (take count scratch) text after → IsTold number old listening told → IsTold number new after (told ++ text)
told_more number Terminal old listening told scratch count new text after reads other listens is = record {
  pieces = is.pieces ++ (record { side = Terminal; bytes = take count scratch }) ∷ [];
  host = stream_more Host is.pieces _ ∙ append-nil _ ∙ is.host ∙ sym (ap (λ w. w.read) other);
  terminal = stream_more Terminal is.pieces _ ∙ ap (λ z. z ++ take count scratch) is.terminal ∙ sym (ap (λ w. w.read) reads.0.3);
  tells = listen_more _ is.pieces told listening _ text after is.tells listens;
}
told_more number Host old listening told scratch count new text after reads other listens is = record {
  pieces = is.pieces ++ (record { side = Host; bytes = take count scratch }) ∷ [];
  host = stream_more Host is.pieces _ ∙ ap (λ z. z ++ take count scratch) is.host ∙ sym (ap (λ w. w.read) reads.0.3);
  terminal = stream_more Terminal is.pieces _ ∙ append-nil _ ∙ is.terminal ∙ sym (ap (λ w. w.read) other);
  tells = listen_more _ is.pieces told listening _ text after is.tells listens;
}
