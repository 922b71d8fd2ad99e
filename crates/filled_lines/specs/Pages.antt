-- A text put on a page, behind what is written there.
use Rattle.std.specs.Prelude.{◌≡◌, ℕ, ◌+◌, ◌≤◌, List, ◌++◌, length, take, drop}
use mathlib.Core.Path.{refl, sym, ◌∙◌}
use mathlib.Core.List.{append_assoc}
use native.Mathlib.Omega.{arith}
use lib.ListN.{length-append, length-drop}
use lib.Seq.{take_at, drop_at, drop-drop, length-take-le}
use Rattle.std.proofs.Common.{take-append-drop}
use Rattle.filled_lines.specs.Sinks.{SinkLaws}
use Rattle.filled_lines.specs.declared.page.Page.{Page}

-- there is room for a text
abbrev pub room_for : Page → List ℕ → Type 0
room_for p x = p.at + length x ≤ length p.out.now

-- a text was put: the same bytes are lent, and before and behind the text nothing changed
pub record PagePut (p : Page) (x : List ℕ) (q : Page) : Type 0 where
  pub same : q.out.ghost_name ≡ p.out.ghost_name
  pub room : p.at + length x ≤ length p.out.now
  pub far : q.at ≡ p.at + length x
  pub left : q.out.now ≡ take p.at p.out.now ++ (x ++ drop (p.at + length x) p.out.now)

module _ (p q : Page) (x : List ℕ) (h : PagePut p x q) where
  front : length (take p.at p.out.now) ≡ p.at
  front = length-take-le p.at p.out.now (omega (arith, h.room))

  written : length (take p.at p.out.now ++ x) ≡ q.at
  written = omega (arith, length-append (take p.at p.out.now) x, front, h.far)

  whole : q.out.now ≡ (take p.at p.out.now ++ x) ++ drop (p.at + length x) p.out.now
  whole = h.left ∙ sym (append_assoc (take p.at p.out.now) x (drop (p.at + length x) p.out.now))

  before : take q.at q.out.now ≡ take p.at p.out.now ++ x
  before = rw whole (take_at (take p.at p.out.now ++ x) (drop (p.at + length x) p.out.now) q.at written)

  behind : drop q.at q.out.now ≡ drop (p.at + length x) p.out.now
  behind = rw whole (drop_at (take p.at p.out.now ++ x) (drop (p.at + length x) p.out.now) q.at written)

  all : length q.out.now ≡ length p.out.now
  all = rw whole (omega (arith, length-append (take p.at p.out.now ++ x) (drop (p.at + length x) p.out.now), written, length-drop (p.at + length x) p.out.now, h.room, h.far))

  further : (y : List ℕ) (r : Page) → PagePut q y r → PagePut p (x ++ y) r
  further y r g =
      let more : p.at + length x + length y ≡ p.at + length (x ++ y) = omega (arith, length-append x y) in
      let size : p.at + length (x ++ y) ≡ q.at + length y = omega (arith, length-append x y, h.far) in
      let end : drop (q.at + length y) q.out.now ≡ drop (p.at + length (x ++ y)) p.out.now =
      rw (← drop-drop (length y) q.at q.out.now, behind, drop-drop (length y) (p.at + length x) p.out.now, more) refl in
      record {
        same = g.same ∙ h.same;
        room = omega (arith, size, g.room, all);
        far = g.far ∙ sym size;
        left = g.left ∙ rw (
          before,
          end,
          append_assoc (take p.at p.out.now) x (y ++ drop (p.at + length (x ++ y)) p.out.now),
          append_assoc x y (drop (p.at + length (x ++ y)) p.out.now),
        ) refl;
      }

-- a page is a sink
pub page_laws : SinkLaws room_for PagePut
page_laws = record {
  nothing = λ s h. record { same = refl; room = h; far = omega arith; left = let z : s.at + 0 ≡ s.at = omega arith in rw z (sym (take-append-drop s.at s.out.now)) };
  first = λ s x y h. omega (arith, h, length-append x y);
  rest = λ s m x y h p. omega (arith, h, length-append x y, all s m x p, p.far);
  both = λ s m e x y p q. further s m x p y e q;
}
