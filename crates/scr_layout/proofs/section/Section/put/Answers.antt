use Rattle.std.proofs.Common.{ap}
use Rattle.toml.specs.View.{view}
use Rattle.scr_layout.specs.Section.{text_data, number_data}
use Rattle.scr_layout.proofs.SectionLaws.{put_col, put_count, put_down, put_kind, put_length, put_name, put_row}
use Rattle.scr_layout.proofs.section.Section.put.Goals as goal

pub returns-in-name : goal.returns-in-name
returns-in-name c = λ put.
    let (none, some) = c.put_text.ensures.put put in
    put_name c.args.key.now (view c.args.value) _ _ _ _ _ _ _ _ c.in-name.is (ap text_data none) some

pub returns-in-row : goal.returns-in-row
returns-in-row c = λ put.
    let (none, some) = c.put_number.ensures.put put in
    put_row c.args.key.now (view c.args.value) _ _ _ _ _ _ _ _ c.in-row.is (ap number_data none) some

pub returns-in-col : goal.returns-in-col
returns-in-col c = λ put.
    let (none, some) = c.put_number-in-col.ensures.put put in
    put_col c.args.key.now (view c.args.value) _ _ _ _ _ _ _ _ c.in-col.is (ap number_data none) some

pub returns-in-length : goal.returns-in-length
returns-in-length c = λ put.
    let (none, some) = c.put_number-in-length.ensures.put put in
    put_length c.args.key.now (view c.args.value) _ _ _ _ _ _ _ _ c.in-length.is (ap number_data none) some

pub returns-in-kind : goal.returns-in-kind
returns-in-kind c = λ put.
    let (none, some) = c.put_text-in-kind.ensures.put put in
    put_kind c.args.key.now (view c.args.value) _ _ _ _ _ _ _ _ c.in-kind.is (ap text_data none) some

pub returns-in-count : goal.returns-in-count
returns-in-count c = λ put.
    let (none, some) = c.put_number-in-count.ensures.put put in
    put_count c.args.key.now (view c.args.value) _ _ _ _ _ _ _ _ c.in-count.is (ap number_data none) some

pub returns-in-down : goal.returns-in-down
returns-in-down c = λ put.
    let (none, some) = c.put_number-in-down.ensures.put put in
    put_down c.args.key.now (view c.args.value) _ _ _ _ _ _ _ _ c.in-down.is (ap number_data none) some
