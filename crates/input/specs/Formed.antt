-- What sources and streams mean is well formed: the proofs of their laws.
use Rattle.std.specs.Prelude.{◌≡◌, zero, suc, Bool, true, false, cond, ◌&&◌, ◌||◌, if◌then◌else◌, List, [], ◌∷◌, ℤ, pos, negsuc, ◌==◌, refl}
use Rattle.std.proofs.lemmas.Bool.{both_ways}
use Rattle.std.specs.Int.Signed.{non_neg}
use Rattle.input.specs.declared.token.Token.{Token}
use Rattle.input.specs.declared.lookahead.Lookahead.{Lookahead}
use Rattle.input.specs.declared.channel_filter.Visible.{Visible}
use Rattle.input.specs.declared.channel_filter.ChannelFilter.{ChannelFilter}
use Rattle.input.specs.Tokens.{minus_one, is_end, is_type, is_input, is_input_end, has_place}
use Rattle.input.specs.Streams.{Stream, WellFormed, Supply, SupplyFormed, Inputs}
use Rattle.input.specs.Held.{HeldFormed, held_tokens, held_end}
use Rattle.input.specs.Lookahead.{stream}
use Rattle.input.specs.Filter.{on_channel_0, visible, filter_stream}

-- a token that is of the input or the end of one, and not the end, is of the input
placed_input : (t : Token) → has_place t ≡ true → is_end t ≡ false → is_input t ≡ true
placed_input t h e = go (is_input t) (is_end t) (non_neg t.index) h e
  where
    go : (i e n : Bool) → (i || (e && n)) ≡ true → e ≡ false → i ≡ true
    go true e n h f = refl
    go false true n h f = absurd (both_ways true f refl)
    go false false n h f = h

-- a token that is of the input or the end of one, and is the end, is the end of an input
placed_end : (t : Token) → has_place t ≡ true → is_end t ≡ true → is_input_end t ≡ true
placed_end t h e = go t.ttype (non_neg t.index) h e
  where
    go : (z : ℤ) (n : Bool) → ((is_type z && n) || (minus_one z && n)) ≡ true → minus_one z ≡ true → (minus_one z && n) ≡ true
    go (pos k) n h f = absurd (both_ways false refl f)
    go (negsuc zero) n h f = h
    go (negsuc (suc k)) n h f = absurd (both_ways false refl f)

-- if the two tokens held are `HeldFormed` and what the source has is `SupplyFormed`, the tokens ahead are tokens of the input
held_inputs : (current second : Token) (s : Supply) → HeldFormed current second → SupplyFormed s → Inputs (held_tokens current second s)
held_inputs current second s h f = go (is_end current) refl (is_end second) refl
  where
    go : (x : Bool) → is_end current ≡ x → (y : Bool) → is_end second ≡ y → Inputs (if x then [] else (current ∷ (if y then [] else (second ∷ s.tokens))))
    go true e y f' = tt
    go false e true f' = (placed_input current h.first e, tt)
    go false e false f' = (placed_input current h.first e, (placed_input second h.behind f', f.inputs))

-- if the two tokens held are `HeldFormed` and what the source has is `SupplyFormed`, the end is the end of an input
held_ends : (current second : Token) (s : Supply) → HeldFormed current second → SupplyFormed s → is_input_end (held_end current second s) ≡ true
held_ends current second s h f = go (is_end current) refl (is_end second) refl
  where
    go : (x : Bool) → is_end current ≡ x → (y : Bool) → is_end second ≡ y → is_input_end (if x then current else (if y then second else s.end)) ≡ true
    go true e y f' = placed_end current h.first e
    go false e true f' = placed_end second h.behind f'
    go false e false f' = f.ends

-- if what the source has still to give is `SupplyFormed`, the stream over it is `WellFormed`
pub stream_formed : {S : Type 0} (supply : S → Supply) (l : Lookahead S) → SupplyFormed (supply l.source) → WellFormed (stream supply l)
stream_formed supply l f = record {
  before = l.before;
  inputs = held_inputs l.current l.second (supply l.source) l.formed f;
  ends = held_ends l.current l.second (supply l.source) l.formed f;
}

-- if all of some tokens are tokens of the input, so are those of them that are on channel 0
every_visible : (ts : List Token) → Inputs ts → Inputs (on_channel_0 ts)
every_visible [] e = tt
every_visible (t ∷ ts) e = go (t.channel == 0) (every_visible ts e.1)
  where
    go : (b : Bool) → Inputs (on_channel_0 ts) → Inputs (cond b (t ∷ on_channel_0 ts) (on_channel_0 ts))
    go true r = (e.0, r)
    go false r = r

-- if a stream is `WellFormed`, its tokens on channel 0 with its end are `SupplyFormed`
pub visible_formed : (s : Stream) → WellFormed s → SupplyFormed (visible s)
visible_formed s f = record { inputs = every_visible s.ahead f.inputs; ends = f.ends }

-- if every stream of a type is `WellFormed`, so is every filter over that type
pub filter_formed : {S : Type 0} (meaning : S → Stream) → ((s : S) → WellFormed (meaning s)) → (f : ChannelFilter S) → WellFormed (filter_stream meaning f)
filter_formed {S} meaning formed f =
    let source = f.tokens.source.stream in
    stream_formed (λ (v : Visible S). visible (meaning v.stream)) f.tokens (visible_formed (meaning source) (formed source))
