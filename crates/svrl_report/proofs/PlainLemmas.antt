-- Lines one behind the other.
use Rattle.std.proofs.Common.{◌≡◌, ℕ, ◌+◌, ◌<◌, ◌≤◌, List, [], ◌∷◌, ◌++◌, length, take, get_or, ap, sym, ◌∙◌, append_assoc, append-nil}
use Rattle.std.proofs.lemmas.List.{take_more, take_all}
use Rattle.std.proofs.lemmas.Grind.{flat_map-append}
use Rattle.schematron_findings.specs.declared.finding.Line.{Line}
use Rattle.svrl_report.specs.declared.tally.Tally.{Tally}
use Rattle.svrl_report.specs.Plain.{lines_text, line_text, all_lines, tally_of, counts_line, plain_report}

-- one more of those that stand behind others
pub one_behind : {X : Type 0} (before xs : List X) (k : ℕ) (x : X) → k < length xs → x ≡ get_or xs k x → (before ++ take k xs) ++ x ∷ [] ≡ before ++
    take (k + 1) xs
one_behind before xs k x h e = append_assoc before (take k xs) (x ∷ []) ∙ ap (λ t. before ++ t) (ap (λ d. take k xs ++ d ∷ []) e ∙ sym (take_more xs k x h))

pub all_behind : {X : Type 0} (before xs : List X) (k : ℕ) → length xs ≤ k → before ++ take k xs ≡ before ++ xs
all_behind before xs k h = ap (λ t. before ++ t) (take_all k xs h)

-- the lines of one file more
pub file_more : (files : List (List Line)) (k : ℕ) (file : List Line) → k < length files → file ≡ get_or files k file → all_lines (take k files) ++
    file ≡ all_lines (take (k + 1) files)
file_more files k file h e =
    ap (λ t. all_lines (take k files) ++ t) (sym (append-nil file))
    ∙ (sym (flat_map-append (λ lines. lines) (take k files) (file ∷ [])) ∙ ap all_lines (one_behind [] files k file h e))

pub text_more : (files : List (List Line)) (k : ℕ) (file : List Line) → k < length files → file ≡ get_or files k file → lines_text (all_lines (take k files)) ++
    lines_text file ≡ lines_text (all_lines (take (k + 1) files))
text_more files k file h e = sym (flat_map-append line_text (all_lines (take k files)) file) ∙ ap lines_text (file_more files k file h e)

-- the text of one line more
pub line_more : (lines : List Line) (k : ℕ) (line : Line) → k < length lines → line ≡ get_or lines k line → lines_text (take k lines) ++
    line_text line ≡ lines_text (take (k + 1) lines)
line_more lines k line h e =
    ap (λ t. lines_text (take k lines) ++ t) (sym (append-nil (line_text line)))
    ∙ (sym (flat_map-append line_text (take k lines) (line ∷ [])) ∙ ap lines_text (one_behind [] lines k line h e))

pub report_whole : (files : List (List Line)) (k : ℕ) (tally : Tally) → length files ≤ k → tally ≡ tally_of (all_lines (take k files)) →
    lines_text (all_lines (take k files)) ++ counts_line tally ≡ plain_report files
unfolding plain_report
report_whole files k tally h e =
    let all : all_lines (take k files) ≡ all_lines files = ap all_lines (take_all k files h) in
    ap (λ t. lines_text (all_lines (take k files)) ++ counts_line t) e ∙ ap (λ lines. lines_text lines ++ counts_line (tally_of lines)) all
