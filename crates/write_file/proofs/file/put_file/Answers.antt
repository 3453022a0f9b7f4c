use mathlib.Core.Path.{◌≡◌, refl, sym, ap, ap₂, subst, ◌∙◌}
use Prim.Native.Nat.{ℕ, ◌+◌, ◌*◌, ◌≤◌}
use native.Mathlib.Omega.{arith}
use mathlib.Core.List.{List, [], ◌++◌, append-nil, append_assoc}
use lib.ListN.{length, drop, length-append}
use lib.Seq.{sets}
use Rattle.base.specs.Over.{over, part, sets_over, part_mid}
use Rattle.base.specs.Put as P
use Rattle.base.specs.Put.{Put, Left}
use Rattle.batch.specs.declared.Edge.{Edge}
use Rattle.frame.specs.Layout.{Section, payload, body_bytes, trailer, head_bytes}
use Rattle.batch.specs.Batch.{Heading, edges_of}
use Rattle.batch_groups.specs.Groups.{groups_of}
use Rattle.write_image.specs.Image.{flags_by, minor_of, sections_by, layout_by, file_of}
use Rattle.write_image.specs.Image.Laws.{width_least, width_most}
use Rattle.write_frame.specs.Standing.{stands}
use Rattle.write_frame.specs.Runs.{length_head, length_trailer}
use Rattle.write_plan.specs.declared.Plan.{Plan}
use Rattle.write_plan.specs.Size.{sections_size}
use Rattle.write_plan.specs.Parts.{file_parts, file_is, length_file, length_payload}
use Rattle.write_plan.specs.Bounds.{PlanFits}
use Rattle.write_contents.specs.Footer.{body_in, body_standing}
use Rattle.write_file.proofs.file.put_file.Goals as goal

module _ (h : Heading) (es : List Edge) (p : Plan) (fits : PlanFits es p) (ids : length h.ids ≡ 48) (o : List ℕ) (enough : p.bytes ≤ length o) where
  abbrev ss : List Section
  ss = sections_by p.keys p.width p.dead es (groups_of es)

  abbrev flags : ℕ
  flags = flags_by h.direction p.dense p.dead

  abbrev minor : ℕ
  minor = minor_of p.keys

  abbrev head : List ℕ
  head = head_bytes minor flags h.ids

  abbrev body : List ℕ
  body = body_bytes ss p.keys (length es) (8 * p.width)

  abbrev tail : List ℕ
  tail = trailer body

  abbrev whole : List ℕ
  whole = file_of h es

  split : whole ≡ head ++ (payload ss ++ (body ++ tail))
  unfolding layout_by
  split =
      sym (file_is h es p.edges p.keys p.width p.partners p.dense p.dead fits.fitting)
      ∙ file_parts (layout_by h p.keys p.width p.dense p.dead es (groups_of es))

  long : length whole ≡ p.bytes
  long = length_file h es p.edges p.keys p.width p.partners p.dense p.dead fits.fitting ids ∙ sym fits.size

  room : 0 + length whole ≤ length o
  room = let l = long in omega arith

  head_long : length head ≡ 64
  head_long = let l = length_head minor flags h.ids in omega arith

  todo : Left o 0 (head ++ (payload ss ++ (body ++ tail))) o 0 whole
  todo = P.is split (P.start o 0 whole)

  room₀ : 16 + length h.ids ≤ length o
  room₀ = let r = P.room head (payload ss ++ (body ++ tail)) todo room in let l = head_long in omega arith

  bounds : (p.edges ≡ length es) × (p.edges ≤ 67108864) × (p.keys ≡ length (groups_of es)) × (p.keys ≤ 67108864) × (p.width ≤ 4) × (3 ≤ p.width)
  bounds =
      let f = fits.fitting in
      let k = fits.keys_few in
      let e = fits.edges_few in
      let w : p.width ≤ 4 = subst (λ (t : ℕ). t ≤ 4) (sym f.width_is) (width_most p.partners) in
      let v : 3 ≤ p.width = subst (λ (t : ℕ). 3 ≤ t) (sym f.width_is) (width_least p.partners) in
      (f.edges_is, e, f.keys_is, omega arith, w, v)

  module _ (fl : ℕ) (same_flags : fl ≡ flags) (m : ℕ) (same-minor : m ≡ minor) {o₁ : List ℕ} (e : o₁ ≡ sets o 0 (head_bytes m fl h.ids)) where
    l₁ : Left o₁ 64 (payload ss ++ (body ++ tail)) o 0 whole
    l₁ =
        let q : Put o o₁ 0 64 head = record { place = omega (arith, head_long); bytes = e ∙ ap₂ (λ (t u : ℕ). sets o 0 (head_bytes t u h.ids)) same-minor same_flags } in P.put todo q

    room₁ : 64 + length (payload ss) ≤ length o₁
    room₁ = omega (arith, P.room (payload ss) (body ++ tail) l₁ room)

    module _ {o₂ : List ℕ} {a₂ : ℕ} (q : Put o₁ o₂ 64 a₂ (payload ss)) where
      l₂ : Left o₂ a₂ (body ++ tail) o 0 whole
      l₂ = P.put l₁ q

      at₂ : a₂ ≡ length (head ++ payload ss)
      at₂ = let r = q.place in let l = head_long in let m = length-append head (payload ss) in omega arith

      -- header and sections stand at the start
      stand₂ : o₂ ≡ (head ++ payload ss) ++ drop a₂ o₂
      stand₂ =
          let w : whole ≡ (head ++ payload ss) ++ (body ++ tail) = split ∙ sym (append_assoc head (payload ss) (body ++ tail)) in
          stands (head ++ payload ss) (body ++ tail) (subst (Left o₂ a₂ (body ++ tail) o 0) w l₂) (omega (arith, at₂))
          (subst (λ (t : List ℕ). 0 + length t ≤ length o) w room)

      body_is : body_in o₂ p.keys p.width p.partners p.edges p.dead ≡ body
      body_is =
          ap (λ (t : List ℕ). body_in t p.keys p.width p.partners p.edges p.dead) (stand₂ ∙ append_assoc head (payload ss) (drop a₂ o₂))
          ∙ body_standing es p.edges p.keys p.width p.partners p.dense p.dead fits.fitting head (drop a₂ o₂) head_long

      size₂ : a₂ ≡ 64 + sections_size p.keys p.width p.partners p.edges p.dead
      size₂ =
          q.place
          ∙ ap (λ (t : ℕ). 64 + t) (length_payload es p.edges p.keys p.width p.partners p.dense p.dead fits.fitting)

      room₂ : (a₂ ≤ 1073741824) × (64 + sections_size p.keys p.width p.partners p.edges p.dead ≤ a₂)
          × (a₂ + length (body_in o₂ p.keys p.width p.partners p.edges p.dead) ≤ length o₂)
      room₂ =
          let few = fits.bytes_few in
          let l = long in
          let place = l₂.place in
          let r = P.room body tail l₂ room in
          let b = ap length body_is in
          let z = size₂ in
          (omega arith, omega arith, omega arith)

      module _ {o₃ : List ℕ} {a₃ : ℕ} (r : Put o₂ o₃ a₂ a₃ (body_in o₂ p.keys p.width p.partners p.edges p.dead)) where
        l₃ : Left o₃ a₃ tail o 0 whole
        l₃ = P.put l₂ (subst (Put o₂ o₃ a₂ a₃) body_is r)

        at₃ : a₃ ≡ a₂ + length body
        at₃ = r.place ∙ ap (λ (t : List ℕ). a₂ + length t) body_is

        -- and the body after them
        stand₃ : o₃ ≡ ((head ++ payload ss) ++ body) ++ drop a₃ o₃
        stand₃ =
            let w : whole ≡ ((head ++ payload ss) ++ body) ++ tail =
            split ∙ sym (append_assoc head (payload ss) (body ++ tail)) ∙ sym (append_assoc (head ++ payload ss) body tail) in
            let l = at₂ in
            let m = at₃ in
            let n = length-append (head ++ payload ss) body in
            stands ((head ++ payload ss) ++ body) tail (subst (Left o₃ a₃ tail o 0) w l₃) (omega arith)
            (subst (λ (t : List ℕ). 0 + length t ≤ length o) w room)

        body_there : part o₃ a₂ a₃ ≡ body
        body_there =
            ap (λ (t : List ℕ). part t a₂ a₃) (stand₃ ∙ append_assoc (head ++ payload ss) body (drop a₃ o₃))
            ∙ part_mid (head ++ payload ss) body (drop a₃ o₃) a₂ a₃ at₂ (at₃ ∙ ap (λ (t : ℕ). t + length body) at₂)

        left : Left o₃ a₃ (trailer (part o₃ a₂ a₃) ++ []) o 0 whole
        left = P.is (ap trailer (sym body_there) ∙ sym (append-nil (trailer (part o₃ a₂ a₃)))) l₃

        room₃ : (a₂ ≤ a₃) × (a₃ + 20 ≤ length o₃)
        room₃ =
            let m = at₃ in
            (omega arith, omega (arith, P.room (trailer (part o₃ a₂ a₃)) [] left room, length_trailer (part o₃ a₂ a₃)))

        done : {o₄ : List ℕ} {a₄ : ℕ} → Put o₃ o₄ a₃ a₄ (trailer (part o₃ a₂ a₃)) → o₄ ≡ over whole o
        done s = (P.end refl (P.put left s)).bytes ∙ sets_over whole o (omega (arith, room))

pub put_header-requires : goal.put_header-requires
put_header-requires c = let a = c.args in (room₀ (record { direction = a.direction; ids = a.ids.now }) (edges_of a.batch.now) a.plan c.requires.0 c.requires.2 a.out.now c.requires.3, c.requires.2)

pub put_payload-p-requires : goal.put_payload-p-requires
put_payload-p-requires c = let a = c.args in let b = bounds (record { direction = a.direction; ids = a.ids.now }) (edges_of a.batch.now) a.plan c.requires.0 c.requires.2 a.out.now c.requires.3 in (b.0, b.1, b.2, b.3, c.requires.1, room₁ (record { direction = a.direction; ids = a.ids.now }) (edges_of a.batch.now) a.plan c.requires.0 c.requires.2 a.out.now c.requires.3 _ c.flags_for-flags.ensures _ c.minor_for.ensures c.put_header.ensures, (b.5, b.4))

pub put_body-q-requires : goal.put_body-q-requires
put_body-q-requires c = let a = c.args in let b = bounds (record { direction = a.direction; ids = a.ids.now }) (edges_of a.batch.now) a.plan c.requires.0 c.requires.2 a.out.now c.requires.3 in let r = room₂ (record { direction = a.direction; ids = a.ids.now }) (edges_of a.batch.now) a.plan c.requires.0 c.requires.2 a.out.now c.requires.3 _ c.flags_for-flags.ensures _ c.minor_for.ensures c.put_header.ensures c.put_payload-p.ensures in (b.3, b.4, b.1, r.0, r.1, r.2)

pub put_trailer-requires : goal.put_trailer-requires
put_trailer-requires c = let a = c.args in room₃ (record { direction = a.direction; ids = a.ids.now }) (edges_of a.batch.now) a.plan c.requires.0 c.requires.2 a.out.now c.requires.3 _ c.flags_for-flags.ensures _ c.minor_for.ensures c.put_header.ensures c.put_payload-p.ensures c.put_body-q.ensures

pub returns : goal.returns
returns c = let a = c.args in done (record { direction = a.direction; ids = a.ids.now }) (edges_of a.batch.now) a.plan c.requires.0 c.requires.2 a.out.now c.requires.3 _ c.flags_for-flags.ensures _ c.minor_for.ensures c.put_header.ensures c.put_payload-p.ensures c.put_body-q.ensures c.put_trailer.ensures
