-- An open table stays open where a row joins it.
use Rattle.std.proofs.Common.{ℕ, suc, ◌+◌, ◌*◌, ◌<◌, ◌≤◌, List, [], ◌∷◌, ◌++◌, length, All, refl, ap, ◌∙◌, arith}
use Rattle.std.proofs.lemmas.List.Elements.{All-nil, All-cons, All-head, All-tail}
use Rattle.bind_rows.specs.declared.names.Leaf.{Leaf}
use Rattle.bind_rows.specs.declared.rows.Row.{Row}
use Rattle.bind_rows.specs.declared.tables.DocumentType.{DocumentType}
use Rattle.bind_table.specs.declared.extending.AddedTerm.{AddedTerm}
use Rattle.bind_table.specs.Extending.{added_row, extended}
use Rattle.bind_table.specs.Lines.{plan_of}
use Rattle.bind_write.specs.Sources.{is_plain_leaf, has_plain_attribute}
use Rattle.binding_laws.proofs.ListLemmas.{both-true}
use Rattle.carrying_laws.proofs.ModelLemmas.{all-each}
use Rattle.extension_laws.proofs.JoinLemmas.{is}
use Rattle.extension_laws.proofs.LayLemmas.{laid-more}
use Rattle.extension_laws.proofs.ListLemmas.{all-more}
use Rattle.extension_laws.proofs.ReadableLemmas.{le-from, readable-more, names-more}
use Rattle.written_laws.specs.Readable.{reading_limits, names_of, is_one_root, invoice_number}
use Rattle.extension_laws.specs.Joins.{Joins, JoinEach}
use Rattle.extension_laws.specs.Open.{IsOpen, HasRoom}
use Rattle.extension_laws.proofs.CompleteLemmas.{complete-more}
use Rattle.extension_laws.proofs.CoverLemmas.{joined-more, paired-more}
use Rattle.extension_laws.proofs.FaultLemmas.{faultless-more}
use Rattle.extension_laws.proofs.PlainLemmas.{covered-more}
use Rattle.extension_laws.proofs.ShowLemmas.{shows-more, rooted-more, root-more, document_type-more}
use Rattle.extension_laws.proofs.TextLemmas.{left-none}

long-more : (rows : List Row) (row : Row) → All (λ (r : Row). 0 < length r.path) rows → 0 < length row.path
    → All (λ (r : Row). 0 < length r.path) (rows ++ row ∷ [])
long-more [] row a h = All-cons (λ (r : Row). 0 < length r.path) row [] h (All-nil (λ (r : Row). 0 < length r.path))
long-more (x ∷ rows) row a h =
    All-cons (λ (r : Row). 0 < length r.path) x (rows ++ row ∷ []) (All-head (λ (r : Row). 0 < length r.path) x rows a)
    (long-more rows row (All-tail (λ (r : Row). 0 < length r.path) x rows a) h)

deep-enough : 23 ≤ reading_limits.depth
deep-enough = le-from 23 reading_limits.depth refl

pub open-more : (table : DocumentType) (rows : List Row) (row : Row) (n : ℕ) → IsOpen table rows → HasRoom (suc n) rows → Joins rows row
    → IsOpen table (rows ++ row ∷ [])
open-more table rows row n was room joins =
    let one = (both-true (is_one_root (plan_of rows)) _ was.readable).0 in
    let r = rooted-more rows row joins was.long one in
    let covered = covered-more rows row joins was.long was.paired was.covered in
    let joined = joined-more rows row joins was.long was.joined in
    let paired = paired-more rows row joins was.long was.paired in
    let left = left-none rows was.covered was.joined was.paired in
    let left_more = left-none (rows ++ row ∷ []) covered joined paired in
    let short = joins.short in
    let deep = deep-enough in
    let enough : length (names_of (plan_of rows)) + 2 * length row.path ≤ reading_limits.names = omega (arith, short, room) in
    record {
      long = long-more rows row was.long joins.long;
      covered = covered;
      joined = joined;
      paired = paired;
      faultless = faultless-more rows row joins was.long was.faultless;
      complete = complete-more rows row joins was.long was.paired left left_more (document_type-more rows row r) was.complete;
      readable = readable-more reading_limits rows row joins was.long was.readable (omega (arith, short, deep)) enough joins.named;
      shows = shows-more invoice_number rows row was.shows;
      root = root-more rows row r ∙ was.root;
      document_type = document_type-more rows row r ∙ was.document_type;
      laid = laid-more rows row joins was.long one was.laid;
      notes = all-more has_plain_attribute rows row (all-each has_plain_attribute rows was.notes)
          (ap (λ (l : Leaf). is_plain_leaf l row.form) (is rows row joins).leaf);
    }

pub room-more : (table : DocumentType) (rows : List Row) (row : Row) (n : ℕ) → IsOpen table rows → HasRoom (suc n) rows → Joins rows row
    → HasRoom n (rows ++ row ∷ [])
room-more table rows row n was room joins =
    let more = names-more reading_limits rows row joins was.long was.readable in
    let short = joins.short in
    omega (arith, more, short, room)

pub open-extended : (table : DocumentType) (terms : List AddedTerm) (rows : List Row) → IsOpen table rows → HasRoom (length terms) rows
    → JoinEach table rows terms
    → IsOpen table (extended table rows terms)
open-extended table [] rows was room joins = was
open-extended table (a ∷ terms) rows was room joins =
    open-extended table terms (rows ++ added_row table rows a ∷ []) (open-more table rows (added_row table rows a) (length terms) was room joins.0)
    (room-more table rows (added_row table rows a) (length terms) was room joins.0) joins.1

pub less-room : (rows : List Row) (n m : ℕ) → m ≤ n → HasRoom n rows → HasRoom m rows
less-room rows n m low room = omega (arith, low, room)
