-- The terminal symbols of the grammar, as the crate declares them.
pub use Rattle.module_units.specs.declared.terminal.Key.{Key}
pub use Rattle.module_units.specs.declared.terminal.Key.TheVariants.{Struct, Class, Using, Const, BuiltIn, Semicolon, Dot, Comma, LeftParen, RightParen, LeftBrace, RightBrace, Star, Ampersand, Equals}
pub use Rattle.module_units.specs.declared.terminal.Terminal.{Terminal}
pub use Rattle.module_units.specs.declared.terminal.Terminal.TheVariants.{Name, Quoted, Export, Module, Import, Colon, Plain}
