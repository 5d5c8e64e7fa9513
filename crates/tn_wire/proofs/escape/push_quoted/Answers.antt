use Rattle.std.proofs.Common.{◌≡◌, ℕ, List, [], ◌∷◌, ◌++◌, drop, take, sym, ◌∙◌, ap, append_assoc}
use Rattle.std.proofs.lemmas.List.{nil_from_length}
use Rattle.tn_wire.specs.Telnet.{quoted}
use Rattle.tn_wire.proofs.Bytes.{quoted_end, quoted_on}
use Rattle.tn_wire.proofs.escape.push_quoted.Goals as goal

pub returns-in_default : goal.returns-in_default
returns-in_default c =
    let n : ℕ = c.run_len.result in
    let rest : List ℕ = c.runs.rest.now in
    let none : drop n rest ≡ [] = sym c.split_at.ensures.back ∙ nil_from_length c.split_at.result.1.now c.in_default.ensures.cases in
    c.in_ok-extend_from_slice.ensures.items
    ∙ ap (λ z. c.runs.out.items ++ z) (c.split_at.ensures.front ∙ quoted_end n rest c.run_len.ensures.plain none)
    ∙ c.runs.invariant

pub runs-preserved : goal.runs-preserved
runs-preserved c =
    let n : ℕ = c.run_len.result in
    let rest : List ℕ = c.runs.rest.now in
    let after : List ℕ = c.in-Some.after.now in
    let split : drop n rest ≡ c.in-Some._iac.now ∷ after = sym c.split_at.ensures.back ∙ c.in-Some.ensures.cases.0 in
    let run : c.extend_from_slice.new.self.items ≡ c.runs.out.items ++ take n rest =
    c.in_ok-extend_from_slice.ensures.items ∙ ap (λ z. c.runs.out.items ++ z) c.split_at.ensures.front in
    let both : c.extend_from_slice-in-runs.new.self.items ≡ (c.runs.out.items ++ take n rest) ++ 255 ∷ 255 ∷ [] =
    c.in_ok-extend_from_slice-2.ensures.items ∙ ap (λ z. z ++ 255 ∷ 255 ∷ []) run in
    ap (λ z. z ++ quoted after) both
    ∙ append_assoc (c.runs.out.items ++ take n rest) (255 ∷ 255 ∷ []) (quoted after)
    ∙ append_assoc c.runs.out.items (take n rest) (255 ∷ 255 ∷ quoted after)
    ∙ ap (λ z. c.runs.out.items ++ z) (quoted_on n rest c.run_len.ensures.plain c.in-Some._iac.now after split c.run_len.ensures.stops)
    ∙ c.runs.invariant
