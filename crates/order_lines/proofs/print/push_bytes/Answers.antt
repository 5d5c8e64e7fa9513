use Rattle.std.proofs.Common.{◌≡◌, ◌++◌, ℕ, List, string_bytes, ap, sym, ◌∙◌}
use Rattle.std.proofs.lemmas.List.{append_assoc, take-append-drop}
use Rattle.hex.specs.Hex.{encode_upper, upper_digits}
use Rattle.order_lines.proofs.Plain.{encode-append}
use Rattle.order_lines.proofs.print.push_bytes.Goals as goal

-- the part is spelled behind what was there, and the others are left
part_spelled : (before part others : List ℕ) → (before ++ encode_upper part) ++ encode_upper others ≡ before ++ encode_upper (part ++ others)
part_spelled before part others =
    append_assoc before (encode_upper part) (encode_upper others) ∙ ap (λ (text : List ℕ). before ++ text) (sym (encode-append upper_digits part others))

pub loop-rest-preserved : goal.loop-rest-preserved
loop-rest-preserved c =
    let rest = c.loop-rest.rest.now in
    let cut : c.split_at.result.0.now ++ c.split_at.result.1.now ≡ rest =
    rw (c.split_at.ensures.front, c.split_at.ensures.back) (take-append-drop 64 rest) in
    rw c.in_ok-push_whole.ensures (part_spelled (string_bytes c.loop-rest.out) c.split_at.result.0.now c.split_at.result.1.now)
    ∙ ap (λ (xs : List ℕ). string_bytes c.loop-rest.out ++ encode_upper xs) cut ∙ c.loop-rest.invariant
