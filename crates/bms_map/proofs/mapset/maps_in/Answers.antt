use Rattle.std.proofs.Common.{◌≡◌, ◌+◌, List, ℕ, ◌∙◌, length, map, subst, sym, arith}
use Rattle.std.proofs.lemmas.Bool.{eqb-true}
use Rattle.std.proofs.lemmas.List.{length-map}
use Rattle.std.proofs.lemmas.Result.{err_from_is_err_and}
use Rattle.bms_source.specs.Results.{Gives}
use Rattle.bms_source.specs.Seen.{seen}
use Rattle.bms_map.specs.Source.{source_from}
use Rattle.bms_map.specs.Mapset.{nothing, told_by}
use Rattle.bms_map.proofs.ValueLaws.{is_some_list}
use Rattle.bms_map.proofs.SourceLaws.{ended_found, failed_found, failed_read, found_due, last_due, passed_found}
use Rattle.bms_map.proofs.mapset.maps_in.Goals as goal

pub returns-in_err-read : goal.returns-in_err-read
returns-in_err-read c =
    let p = err_from_is_err_and c.from_residual.result c.from_residual.ensures.1 in
    let some = is_some_list c.loop-rest.rest.now (sym c.is_empty.ensures ∙ c.loop-rest-test.true) in
    rw (p.1, p.2) (failed_read c.loop-rest.mapset c.loop-rest.number (map (λ line. line.now) c.loop-rest.rest.now) _ c.in_err-read.field-0.0
    (omega (arith, some, length-map c.loop-rest.rest.now (λ line. line.now))) c.loop-rest.invariant.due c.in_err-read.ensures.said)

pub returns-in_err-more : goal.returns-in_err-more
returns-in_err-more c =
    let p = err_from_is_err_and c.from_residual-in_err-more.result c.from_residual-in_err-more.ensures.1 in
    let lines = map (λ line. line.now) c.loop-rest.rest.now in
    let some = is_some_list c.loop-rest.rest.now (sym c.is_empty.ensures ∙ c.loop-rest-test.true) in
    let whole_length = length-map c.loop-rest.rest.now (λ line. line.now) in
    rw (p.1, p.2) (failed_found c.loop-rest.mapset c.loop-rest.number c.in_ok-read.count lines (seen c.in_ok-read.read) _ c.in_err-more.field-0.0
    (found_due c.loop-rest.mapset c.loop-rest.number c.in_ok-read.count lines (seen c.in_ok-read.read) _ (omega (arith, some, whole_length)) c.loop-rest.invariant.due c.in_ok-read.ensures.said
    (c.in_ok-read.ensures.some (omega (arith, some))) (omega (arith, whole_length, c.in_ok-read.ensures.few))) c.in_err-more.ensures)

pub returns-in-Some : goal.returns-in-Some
returns-in-Some c =
    let lines = map (λ line. line.now) c.loop-rest.rest.now in
    let some = is_some_list c.loop-rest.rest.now (sym c.is_empty.ensures ∙ c.loop-rest-test.true) in
    let whole_length = length-map c.loop-rest.rest.now (λ line. line.now) in
    subst (λ d. Gives (λ maps. maps.items) c.whole.result d)
    (ended_found c.loop-rest.mapset c.in_ok-more.more c.loop-rest.number c.in_ok-read.count lines (seen c.in_ok-read.read) _ c.in_ok-more.end c.in-Some.place
    (found_due c.loop-rest.mapset c.loop-rest.number c.in_ok-read.count lines (seen c.in_ok-read.read) _ (omega (arith, some, whole_length)) c.loop-rest.invariant.due c.in_ok-read.ensures.said
    (c.in_ok-read.ensures.some (omega (arith, some))) (omega (arith, whole_length, c.in_ok-read.ensures.few))) c.in_ok-more.ensures c.in-Some.is) c.whole.ensures

pub loop-rest-preserved : goal.loop-rest-preserved
loop-rest-preserved c =
    let lines = map (λ line. line.now) c.loop-rest.rest.now in
    let some = is_some_list c.loop-rest.rest.now (sym c.is_empty.ensures ∙ c.loop-rest-test.true) in
    let whole_length = length-map c.loop-rest.rest.now (λ line. line.now) in
    record {
      count = omega (arith, c.behind-rest.ensures.count, c.loop-rest.invariant.count);
      due = subst (λ (l : List (List ℕ)). told_by c.in_ok-more.more (source_from 0 (c.loop-rest.number + c.in_ok-read.count) l) ≡ told_by nothing (source_from 0 1 (map (λ line. line.now) c.args.lines.now))) (sym c.behind-rest.ensures.lines)
          (passed_found c.loop-rest.mapset c.in_ok-more.more c.loop-rest.number c.in_ok-read.count lines (seen c.in_ok-read.read) _ c.in_ok-more.end
          (found_due c.loop-rest.mapset c.loop-rest.number c.in_ok-read.count lines (seen c.in_ok-read.read) _ (omega (arith, some, whole_length)) c.loop-rest.invariant.due
          c.in_ok-read.ensures.said (c.in_ok-read.ensures.some (omega (arith, some))) (omega (arith, whole_length, c.in_ok-read.ensures.few))) c.in_ok-more.ensures c.in_default.is);
    }

pub returns : goal.returns
returns c =
    subst (λ d. Gives (λ maps. maps.items) c.whole-2.result d)
    (last_due c.loop-rest.mapset c.loop-rest.number (map (λ line. line.now) c.loop-rest.rest.now) _
    (omega (arith, length-map c.loop-rest.rest.now (λ line. line.now), eqb-true (length c.loop-rest.rest.now) 0 (sym c.is_empty.ensures ∙ c.loop-rest-test.false))) c.loop-rest.invariant.due)
    c.whole-2.ensures
