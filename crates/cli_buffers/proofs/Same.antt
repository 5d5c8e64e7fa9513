-- The line that is told is the one that is refused.
use Rattle.std.proofs.Common.{◌≡◌, ◌∙◌, ℕ, Bool, true, false, cond, List, [], ◌∷◌, ◌++◌, Option, Some, None, option_map, Result, Ok, Err, refl, sym, ap}
use Rattle.ds_codec.specs.Reading.{◌>>=◌}
use Rattle.buffer_lines.specs.Line.{line_told}
use Rattle.buffer_lines.specs.Screen.{Opened, Taken, Course, goes, ends, stops, is_blank, step_by}
use Rattle.cli_commands.specs.declared.fault.Fault.{Fault}
use Rattle.cli_commands.specs.declared.fault.Fault.TheVariants.{BadLine}
use Rattle.cli_buffers.specs.declared.reason.BufferFlaw.{BufferFlaw}
use Rattle.cli_buffers.specs.declared.reason.BufferWhy.TheVariants.{NoStatus}
use Rattle.cli_buffers.specs.declared.sizes.SizesLine.{SizesLine}
use Rattle.cli_buffers.specs.Reading.{Known, after_course, all_from, counted, ended, record_line, take_line}
use Rattle.cli_buffers.specs.Reason.{end_flaw, flaw_from, line_flaw, refused_line, unless_taken}
use Rattle.cli_buffers.specs.Sizes.{first_size, is_other, sizes_text}

end_same : (b : Bool) (number : ℕ) (text : List ℕ)
    → option_map (λ (told : BufferFlaw). told.number) (cond b None (Some (record { number = number; why = NoStatus }))) ≡ refused_line (cond {A = Result (List ℕ) Fault} b (Ok text) (Err (BadLine number)))
end_same true number text = refl
end_same false number text = refl

other_same : (b : Bool) (number : ℕ) (next : Known) (flaw : BufferFlaw) (others : Known → Option BufferFlaw) (rest : Known → Result (List ℕ) Fault)
    → flaw.number ≡ number → ((known : Known) → option_map (λ told. told.number) (others known) ≡ refused_line (rest known))
    → option_map (λ told. told.number) (unless_taken flaw (cond b (Err (BadLine number)) (Ok next)) others) ≡ refused_line (cond {A = Result Known Fault} b (Err (BadLine number)) (Ok next) >>= rest)
other_same true number next flaw others rest same more = ap (λ n. Some n) same
other_same false number next flaw others rest same more = more next

-- a line that isn't taken is told with its own number
taken_same : (sizes : SizesLine) (known : Known) (course : Course) (flaw : BufferFlaw) (others : Known → Option BufferFlaw) (rest : Known → Result (List ℕ) Fault)
    → flaw.number ≡ known.number → ((next : Known) → option_map (λ told. told.number) (others next) ≡ refused_line (rest next))
    → option_map (λ told. told.number) (unless_taken flaw (after_course sizes known course) others) ≡ refused_line (after_course sizes known course >>= rest)
taken_same sizes known (goes opened) flaw others rest same more = more (record known { opened = opened })
taken_same sizes known (ends taken opened) flaw others rest same more =
    other_same (is_other sizes known.first taken.size) known.number (record known {
      opened = opened;
      first = Some (first_size known.first taken.size);
      text = known.text ++ (sizes_text sizes known.first taken.size ++ record_line taken.bytes);
    }) flaw others rest same more
taken_same sizes known stops flaw others rest same more = ap (λ n. Some n) same

bind_bind : {A B C : Type 0} (r : Result A Fault) (f : A → Result B Fault) (g : B → Result C Fault) → (r >>= f >>= g) ≡ (r >>= λ x. f x >>= g)
bind_bind (Ok x) f g = refl
bind_bind (Err e) f g = refl

pub same_line : (sizes : SizesLine) (known : Known) (lines : List (List ℕ))
    → option_map (λ told. told.number) (flaw_from sizes known lines) ≡ refused_line (all_from sizes known lines >>= ended)
same_line sizes known [] = end_same (is_blank known.opened) known.number known.text
same_line sizes known (line ∷ lines) =
    taken_same sizes (counted known) (step_by known.opened (line_told line)) (line_flaw known line) (λ next. flaw_from sizes next lines) (λ next. all_from sizes next lines >>= ended) refl
    (λ next. same_line sizes next lines)
    ∙ ap refused_line (sym (bind_bind (take_line sizes known line) (λ next. all_from sizes next lines) ended))
