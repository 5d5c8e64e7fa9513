-- Sizes that a line tells can be addressed.
use Rattle.std.proofs.Common.{◌≡◌, ◌≤◌, ℕ, Bool, true, false, cond, eqb, ◌&&◌, List, [], ◌∷◌, drop, Option, Some, None, refl, subst, arith, inl, inr}
use Rattle.std.specs.Prelude.{codes, nat_eq}
use Rattle.std.specs.List.{starts_with, list_any, before_first, after_first}
use Rattle.std.specs.Str.{is_utf8}
use Rattle.std.proofs.lemmas.Bool.{leb-true}
use Rattle.ds_codec.specs.declared.size.Size.{Size}
use Rattle.ds_codec.specs.declared.size.Mode.{Mode}
use Rattle.ds_codec.specs.declared.size.Mode.TheVariants.{Bits14, Bits16}
use Rattle.ds_codec.specs.Geometry.{Sizes, cells_of, limit_of, is_good, geometry_of}
use Rattle.ds_codec.proofs.Below.{both_true}
use Rattle.order_lines.specs.Told.{Told, told_of}
use Rattle.scr_layout.specs.SizeText.{size_of_text}
use Rattle.cli_commands.specs.Sizes.{is_space, is_sixteen, geometry_from, geometry_by, geometry_after, geometry_in, geometry_told}
use Rattle.cli_commands.specs.declared.input.sizes.SizeLine.TheVariants.{Allowed}
use Rattle.cli_commands.specs.Drafts.{comment, sizes, bad, sizes_or_words, text_told, line_told}
use Rattle.cli_commands.specs.Law.{TellsSizes}

-- both sizes can be addressed
abbrev pub AreAddressed : Sizes → Type 0
AreAddressed geometry = (cells_of geometry.default ≤ limit_of geometry.mode) × (cells_of geometry.alternate ≤ limit_of geometry.mode)

good_size : (mode : Mode) (size : Size) → is_good mode size ≡ true → cells_of size ≤ limit_of mode
good_size mode size h = leb-true _ _ (both_true _ _ (both_true _ _ h).1).1

of_sizes : (mode : Mode) (default alternate : Size) (geometry : Sizes) → geometry_of default alternate mode ≡ Some geometry → AreAddressed geometry
of_sizes mode default alternate geometry told =
    elim (is_good mode default && is_good mode alternate)
    as (λ t. (is_good mode default && is_good mode alternate) ≡ t → cond t (Some (record { default = default; alternate = alternate; mode = mode })) None ≡ Some geometry → AreAddressed geometry) [
      | true ↦ λ good some.
          let both = both_true (is_good mode default) (is_good mode alternate) good in
          let same : record { default = default; alternate = alternate; mode = mode } ≡ geometry = cc in
          subst AreAddressed same (good_size mode default both.0, good_size mode alternate both.1)
      | false ↦ λ good none. absurd cc
    ] refl told

from_sizes : (mode : Mode) (default alternate : Option Size) (geometry : Sizes) → geometry_from mode default alternate ≡ Some geometry → AreAddressed geometry
from_sizes mode (Some default) (Some alternate) geometry told = of_sizes mode default alternate geometry told
from_sizes mode (Some default) None geometry told = absurd cc
from_sizes mode None (Some alternate) geometry told = absurd cc
from_sizes mode None None geometry told = absurd cc

from_two : (mode : Mode) (default alternate : List ℕ) (geometry : Sizes) → geometry_by mode default alternate ≡ Some geometry → AreAddressed geometry
from_two mode default alternate geometry told = from_sizes mode (size_of_text mode default) (size_of_text mode alternate) geometry told

from_last : (default alternate : List ℕ) (sixteen : Bool) (geometry : Sizes) → cond sixteen (geometry_by Bits16 default alternate) None ≡ Some geometry → AreAddressed geometry
from_last default alternate true geometry told = from_two Bits16 default alternate geometry told
from_last default alternate false geometry told = absurd cc

from_rest : (default rest : List ℕ) (geometry : Sizes) → geometry_after default rest ≡ Some geometry → AreAddressed geometry
from_rest default rest geometry told =
    let last = cond (is_sixteen (after_first is_space rest)) (geometry_by Bits16 default (before_first is_space rest)) None in
    elim (is_sixteen rest)
    as (λ t. cond t (geometry_by Bits16 default default) (cond (list_any is_space rest) last (geometry_by Bits14 default rest)) ≡ Some geometry → AreAddressed geometry) [
      | true ↦ λ some. from_two Bits16 default default geometry some
      | false ↦ λ some.
          elim (list_any is_space rest) as (λ t. cond t last (geometry_by Bits14 default rest) ≡ Some geometry → AreAddressed geometry) [
            | true ↦ λ two. from_last default (before_first is_space rest) (is_sixteen (after_first is_space rest)) geometry two
            | false ↦ λ two. from_two Bits14 default rest geometry two
          ] some
    ] told

from_words : (words : List ℕ) (geometry : Sizes) → geometry_in words ≡ Some geometry → AreAddressed geometry
from_words words geometry told =
    elim (list_any is_space words)
    as (λ t. cond t (geometry_after (before_first is_space words) (after_first is_space words)) (geometry_by Bits14 words words) ≡ Some geometry → AreAddressed geometry) [
      | true ↦ λ some. from_rest (before_first is_space words) (after_first is_space words) geometry some
      | false ↦ λ some. from_two Bits14 words words geometry some
    ] told

from_line : (line : List ℕ) (geometry : Sizes) → geometry_told line ≡ Some geometry → AreAddressed geometry
from_line line geometry told =
    elim (starts_with nat_eq line (codes "size ")) as (λ t. cond t (geometry_in (drop 5 line)) None ≡ Some geometry → AreAddressed geometry) [
      | true ↦ λ some. from_words (drop 5 line) geometry some
      | false ↦ λ none. absurd cc
    ] told

is_sized : (found : Option Sizes) (told : Option Told) (geometry : Sizes) → sizes_or_words found told ≡ sizes geometry → found ≡ Some geometry
is_sized (Some found) told geometry said = cc
is_sized None (Some told) geometry said = absurd cc
is_sized None None geometry said = absurd cc

from_text : (line : List ℕ) (geometry : Sizes) → text_told Allowed line ≡ sizes geometry → AreAddressed geometry
from_text [] geometry said = absurd cc
from_text (b ∷ bs) geometry said =
    elim (eqb b 0x23) as (λ t. cond t comment (sizes_or_words (geometry_told (b ∷ bs)) (told_of (b ∷ bs))) ≡ sizes geometry → AreAddressed geometry) [
      | true ↦ λ other. absurd cc
      | false ↦ λ some. from_line (b ∷ bs) geometry (is_sized (geometry_told (b ∷ bs)) (told_of (b ∷ bs)) geometry some)
    ] said

from_said : (line : List ℕ) (geometry : Sizes) → line_told Allowed line ≡ sizes geometry → AreAddressed geometry
unfolding line_told
from_said line geometry said =
    elim (is_utf8 line) as (λ t. cond t (text_told Allowed line) bad ≡ sizes geometry → AreAddressed geometry) [
      | true ↦ λ some. from_text line geometry some
      | false ↦ λ other. absurd cc
    ] said

pub are_addressed : (told : List ℕ) (geometry : Sizes) → TellsSizes told geometry → AreAddressed geometry
are_addressed told geometry (inl (none, usual)) = rw usual (omega arith, omega arith)
are_addressed told geometry (inr (line, is, one, said)) = from_said line geometry said
