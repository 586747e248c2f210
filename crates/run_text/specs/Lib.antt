pub mod ValueText
