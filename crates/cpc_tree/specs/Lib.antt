pub mod Syntax
pub mod Located
pub mod Erase
pub mod Locate
pub mod Tokens
pub mod Pieces
pub mod Cut
pub mod Spelling
pub mod Lists
pub mod Typing
pub mod Primitives
pub mod PrimitiveNames
pub mod Points
pub mod Registers
pub mod Trace
pub mod Texts
pub mod TypeGrammar
pub mod ExprGrammar
pub mod StmtGrammar
pub mod ItemGrammar
pub mod Grammar
pub mod TypePrint
pub mod ExprPrint
pub mod StmtPrint
pub mod ItemPrint
pub use Rattle.cpc_num.specs.declared.kinds.Kind.TheVariants as KindVariants
pub use Rattle.cpc_num.specs.declared.kinds.Op
pub use Rattle.cpc_num.specs.declared.kinds.Op.TheVariants as OpVariants
