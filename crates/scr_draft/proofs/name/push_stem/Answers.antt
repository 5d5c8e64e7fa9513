use Rattle.std.proofs.Common.{◌∙◌, ap, take}
use Rattle.std.specs.List.{list_all}
use Rattle.scr_layout.specs.Entry.{is_name_byte}
use Rattle.scr_draft.specs.Name.{undashed}
use Rattle.scr_draft.proofs.NameLaws.{bytes_take, undashed_bytes}
use Rattle.scr_draft.proofs.name.push_stem.Goals as goal

pub push_bytes-requires : goal.push_bytes-requires
push_bytes-requires c =
    ap (list_all is_name_byte) (c.undashed.ensures ∙ ap undashed c.front.ensures)
    ∙ undashed_bytes (take c.args.most c.args.words.now) (bytes_take c.args.most c.args.words.now c.requires.bytes)
